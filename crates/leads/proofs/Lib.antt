mod Keyed
mod Alone
mod Totals
mod Best
mod Free
mod Public
