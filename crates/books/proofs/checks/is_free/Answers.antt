use Rattle.std.proofs.Common.{◌≡◌, ℕ, ◌%◌, get_or, None, Option, sym, refl, ap, ◌∙◌, subst, arith}
use Rattle.rules.specs.declared.records.Rule.{Rule}
use Rattle.links.specs.Links.{Last}
use Rattle.books.specs.Numbering.{remainders, remainder_of}
use Rattle.books.proofs.Frees.{Sought, sought_begin, sought_next}
use Rattle.books.proofs.checks.is_free.Goals as goal

pub loop-earlier-init : goal.loop-earlier-init
loop-earlier-init g c =
    let rules = (g.B.Book.meaning c.args.book.now).rules in
    let label : ℕ = c.args.number % remainders in
    let is : c.into_iter-earlier-iterator.result ≡ c.places-earlier-items.result = c.into_iter-earlier-iterator.ensures.into_iter_gives in
    let held : c.into_iter-earlier-iterator.result.held ≡ get_or c.args.links.now.heads.now label None = ap (λ p. p.held) is ∙ c.places-earlier-items.ensures.held in
    let last = c.requires.linked.last label (omega (arith, c.requires.heads)) in
    (ap (λ p. p.nexts.now) is ∙ c.places-earlier-items.ensures.nexts, subst (Sought rules c.args.number c.args.place) (sym held) (sought_begin rules c.args.number c.args.place _ last))

pub known-requires : goal.known-requires
known-requires g c =
    let known = c.loop-earlier.invariant.1.alike c.in-Some.earlier (sym c.in-Some.ensures.steps.comes) in
    omega (arith, known.0, c.requires.place)

pub loop-earlier-preserved : goal.loop-earlier-preserved
loop-earlier-preserved g c =
    let rules = (g.B.Book.meaning c.args.book.now).rules in
    let place : ℕ = c.in-Some.earlier in
    let next : Option ℕ = c.next.new.self.held in
    let step = c.in-Some.ensures.steps in
    let inv = c.loop-earlier.invariant in
    let known = inv.1.alike place (sym step.comes) in
    let last : Last (remainder_of rules) place (remainder_of rules place) next = subst (λ (h : Option ℕ). Last (remainder_of rules) place (remainder_of rules place) h) (sym (step.next place refl ∙ ap (λ ns. get_or ns place None) inv.0)) (c.requires.linked.before place known.0) in
    (step.nexts ∙ inv.0, sought_next rules c.args.number c.args.place place _ next step.comes (λ e. c.if-known-number.false (ap (λ (r : Rule). r.number) c.known.ensures ∙ e)) last inv.1)
