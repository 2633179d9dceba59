-- The packed book, version 1: where its parts stand in a file, and how its numbers are stored. Assumes nothing.
use Rattle.std.specs.Prelude.{ℕ, zero, suc, ◌+◌, ◌*◌, ◌^◌, cond, List, take, drop, ℤ, pos, codes, nat_lt, slice_index}
use Rattle.std.proofs.Math.IntN.{sub_ℕ}

-- the three bytes that a file starts with
abbrev pub mark : List ℕ
mark = codes "FPD"

-- the only version so far
abbrev pub version : ℕ
version = 1

-- where the version, the event count and the rule count start; each has 16 bits
abbrev pub version_start : ℕ
version_start = 3

abbrev pub events_start : ℕ
events_start = 5

abbrev pub count_start : ℕ
count_start = 7

-- the bytes before the first rule
abbrev pub head_size : ℕ
head_size = 9

-- where the rule at a place starts: 10 bytes for each rule before it
abbrev pub rule_start : ℕ → ℕ
rule_start place = head_size + 10 * place

-- where the fields of a rule start, counted from the rule's start: number, events (16 bits each), limit (32 bits)
abbrev pub first_field : ℕ
first_field = 2

abbrev pub second_field : ℕ
second_field = 4

abbrev pub limit_field : ℕ
limit_field = 6

-- the longest name
abbrev pub max_name : ℕ
max_name = 12

-- the bytes that a name is made of
abbrev pub min_letter : ℕ
min_letter = 32

abbrev pub max_letter : ℕ
max_letter = 126

-- the byte at a place; 0 past the end
abbrev pub byte_at : List ℕ → ℕ → ℕ
byte_at file at = slice_index file at

-- the numbers of 16 and of 32 bits that start at a place, high byte first
abbrev pub u16_at : List ℕ → ℕ → ℕ
u16_at file at = 256 * byte_at file at + byte_at file (at + 1)

abbrev pub u32_at : List ℕ → ℕ → ℕ
u32_at file at = 65_536 * u16_at file at + u16_at file (at + 2)

-- a number of 32 bits read as two's complement
abbrev pub signed : ℕ → ℤ
signed w = cond (nat_lt w (2 ^ 31)) (pos w) (sub_ℕ w (2 ^ 32))

-- where the length byte of an event's name stands: after the rules and the names of the events before it
abbrev pub name_start : List ℕ → ℕ → ℕ
name_start file zero = rule_start (u16_at file count_start)
name_start file (suc event) = name_start file event + 1 + byte_at file (name_start file event)

-- the part of a file that starts at a place and has so many bytes
abbrev pub part : List ℕ → ℕ → ℕ → List ℕ
part file start size = take size (drop start file)
