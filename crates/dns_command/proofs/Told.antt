-- What a journal tells, over several calls.
use Rattle.std.proofs.Common.{◌≡◌, ◌≢◌, ℕ, ℤ, ◌≤◌, List, [], ◌∷◌, Option, Some, None, Err, refl, sym, subst, ◌∙◌, arith}
use Rattle.dns_io.specs.Told.{Told, NeverBegins, Rose, Keeps}
use Rattle.dns_io.proofs.ToldContents.{Told-same, Told-more}
use Rattle.dns_name.specs.Name.{fold_of}
use Rattle.dns_keeper.specs.declared.row.Row.{Row}
use Rattle.dns_keeper.specs.Rows.{first_of}
use Rattle.dns_keeper.specs.Keeping.{IsFirstRow}
use Rattle.dns_update.specs.declared.replay_kind.ReplayKind.{ReplayKind}
use Rattle.dns_update.specs.Replay.{Replays}
use Rattle.dns_book.specs.Opening.{HadNoRow, HadRows, AreRefused}
use Rattle.dns_server_core.specs.Books.{RoseBy}

no_first : (rows : List Row) → None ≡ first_of rows → rows ≡ []
no_first [] e = refl
no_first (r ∷ rs) e = absurd cc

some_first : (row : Row) (rows : List Row) → Some row ≡ first_of rows → rows ≢ []
some_first row [] e is = absurd cc
some_first row (r ∷ rs) e is = absurd cc

-- what a look at the first row tells
pub HadNoRow-first : (a b : Option (List Row)) → IsFirstRow b None → Keeps a b → HadNoRow a b
HadNoRow-first a None none k = tt
HadNoRow-first None (Some y) none k = absurd k
HadNoRow-first (Some x) (Some y) none k = sym k ∙ no_first y none

pub HadRows-first : (a b : Option (List Row)) (row : Row) → IsFirstRow b (Some row) → Keeps a b → HadRows a b
HadRows-first a None row first k = tt
HadRows-first None (Some y) row first k = absurd k
HadRows-first (Some x) (Some y) row first k = λ none. some_first row y first (k ∙ none)

-- what is told was told
pub NeverBegins-told : {A : Type 0} (R : A → A → Type 0) (a b : Option A) → Told R a b → NeverBegins a b
NeverBegins-told R a None p = tt
NeverBegins-told R None (Some y) p = absurd p
NeverBegins-told R (Some x) (Some y) p = tt

pub NeverBegins-same : {A : Type 0} (a : Option A) → NeverBegins a a
NeverBegins-same a = Told-same _ (λ x. tt) a

pub NeverBegins-more : {A : Type 0} (a b c : Option A) → NeverBegins a b → NeverBegins b c → NeverBegins a c
NeverBegins-more = Told-more _ _ _ (λ x y z p q. tt)

pub HadNoRow-on : (a b c : Option (List Row)) → HadNoRow a b → NeverBegins b c → HadNoRow a c
HadNoRow-on = Told-more _ _ _ (λ x y z p q. p)

pub HadRows-on : (a b c : Option (List Row)) → HadRows a b → NeverBegins b c → HadRows a c
HadRows-on = Told-more _ _ _ (λ x y z p q. p)

-- what was seen of the rows holds of them now
pub HadNoRow-now : (a b : Option (List Row)) → HadNoRow a b → Keeps a b → HadNoRow b b
HadNoRow-now a None p q = tt
HadNoRow-now None (Some s) p q = absurd q
HadNoRow-now (Some r) (Some s) p q = q ∙ p

pub AreRefused-earlier : (a b c : Option (List Row)) (origin : List (List ℕ)) (row : ℤ) (why : ReplayKind) → Keeps a b → AreRefused b c origin row why → AreRefused a c origin row why
AreRefused-earlier a b c origin row why =
    Told-more (λ x y. y ≡ x) (λ (y z : List Row). Replays (fold_of origin) y (Err (record { row = row; kind = why }))) (λ (x z : List Row). Replays (fold_of origin) x (Err (record { row = row; kind = why })))
    (λ x y z p q. subst (λ (rows : List Row). Replays (fold_of origin) rows (Err (record { row = row; kind = why }))) p q) a b c

pub Rose-earlier : (n m k : ℕ) → n ≤ m → Rose m k → Rose n k
Rose-earlier n m k h r = omega arith

pub RoseBy-earlier : (count n m k : ℕ) → n ≤ m → RoseBy count m k → RoseBy count n k
RoseBy-earlier count n m k h r = omega arith
