-- Tickets are counted modulo 2^64.
use Rattle.std.proofs.Common.{◌≡◌, ◌≢◌, ⊎_elim, ℕ, ◌+◌, ◌-◌, ◌%◌, ◌^◌, ◌<◌, ◌≤◌, ◌==◌, sym, ap, ◌∙◌, arith}
use Rattle.std.specs.Prelude.{nat_lt}
use Rattle.std.proofs.lemmas.Bool.{cases_eq}
use Rattle.std.proofs.lemmas.Bool.Decides.{nat_tests}
use Rattle.dns_ticket_world.specs.Facts.{ahead, once}

abbrev pub M : ℕ
M = 2 ^ 64

-- one more was drawn
pub further : (serving next : ℕ) → serving < M → next < M → ahead serving next < 2 ^ 32 → ahead serving ((next + 1) % M) ≡ ahead serving next + 1
further serving next s n small = omega arith

-- one was passed
pub nearer : (serving ticket : ℕ) → serving < M → ticket < M → 0 < ahead serving ticket → ahead ((serving + 1) % M) ticket + 1 ≡ ahead serving ticket
nearer serving ticket s t some = omega arith

-- a ticket is told by how far it is ahead
same_ahead : (serving a b : ℕ) → serving < M → a < M → b < M → ahead serving a ≡ ahead serving b → a ≡ b
same_ahead serving a b s x y e = omega arith

pub none_ahead : (serving : ℕ) → serving < M → ahead serving serving ≡ 0
none_ahead serving s = omega arith

some_ahead : (serving ticket : ℕ) → serving < M → ticket < M → serving ≢ ticket → 0 < ahead serving ticket
some_ahead serving ticket s t apart = omega arith

last_ahead : (serving : ℕ) → serving < M → ahead ((serving + 1) % M) serving ≡ M - 1
last_ahead serving s = omega arith

below : (serving ticket : ℕ) → ahead serving ticket < M
below serving ticket = omega arith

one_more : (a b c next ticket : ℕ) → c ≡ b + 1 → (b ≡ a → next ≡ ticket) → (next ≡ ticket → b ≡ a) → once (nat_lt a c) ≡ once (nat_lt a b) + once (next == ticket)
one_more a b c next ticket more there back = grind (arith, nat_tests)

pub drawn_out : (serving next ticket : ℕ) → serving < M → next < M → ticket < M → ahead serving next < 2 ^ 32
    → once (nat_lt (ahead serving ticket) (ahead serving ((next + 1) % M))) ≡ once (nat_lt (ahead serving ticket) (ahead serving next)) + once (next == ticket)
drawn_out serving next ticket s n t small =
    one_more (ahead serving ticket) (ahead serving next) (ahead serving ((next + 1) % M)) next ticket
    (further serving next s n small)
    (same_ahead serving next ticket s n t)
    (λ e. ap (ahead serving) e)

one_less : (a b c d serving ticket : ℕ) → c + 1 ≡ a → d + 1 ≡ b → serving ≢ ticket → once (nat_lt c d) + once (serving == ticket) ≡ once (nat_lt a b)
one_less a b c d serving ticket x y apart = grind (arith, nat_tests)

the_first : (a b c d serving ticket : ℕ) → a ≡ 0 → 0 < b → d ≤ c → serving ≡ ticket → once (nat_lt c d) + once (serving == ticket) ≡ once (nat_lt a b)
the_first a b c d serving ticket x y above same = grind (arith, nat_tests)

pub passed_out : (serving next ticket : ℕ) → serving < M → next < M → ticket < M → 0 < ahead serving next
    → once (nat_lt (ahead ((serving + 1) % M) ticket) (ahead ((serving + 1) % M) next)) + once (serving == ticket) ≡ once (nat_lt (ahead serving ticket) (ahead serving next))
passed_out serving next ticket s n t some = ⊎_elim
    (λ same. the_first (ahead serving ticket) (ahead serving next) (ahead ((serving + 1) % M) ticket) (ahead ((serving + 1) % M) next) serving ticket
    (ap (ahead serving) (sym same) ∙ none_ahead serving s)
    some
    (let last = ap (ahead ((serving + 1) % M)) (sym same) ∙ last_ahead serving s in omega (arith, below ((serving + 1) % M) next))
    same)
    (λ apart. one_less (ahead serving ticket) (ahead serving next) (ahead ((serving + 1) % M) ticket) (ahead ((serving + 1) % M) next) serving ticket
    (nearer serving ticket s t (some_ahead serving ticket s t apart))
    (nearer serving next s n some)
    apart)
    (cases_eq serving ticket)
