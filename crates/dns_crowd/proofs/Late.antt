-- Connections that are late are let go one by one, in the order in which their time was over.
use Rattle.std.proofs.Common.{◌≡◌, ◌≢◌, ◌≤◌, ◌<◌, ◌+◌, ◌∙◌, ℕ, zero, suc, List, [], ◌∷◌, ◌++◌, length, drop, get_or, Bool, true, false, Option, Result, Ok, Err, cond, ltb, refl, sym, ap, subst, append-nil, append_assoc, arith}
use Rattle.std.specs.List.{AllByRecursion, Contains, remove}
use Rattle.std.specs.List.Sorted.{IsPermutation}
use Rattle.std.proofs.lemmas.Bool.{cond-true, cond-false, le-ltb, lt-ltb}
use Rattle.std.proofs.lemmas.List.Sorted.{IsPermutation-append_right, IsPermutation-middle, IsPermutation-refl, IsPermutation-trans, All-permutation, sum_by-IsPermutation}
use Rattle.std.proofs.lemmas.List.Elements.{All-from_recursion, recursion_from_All}
use Rattle.std.proofs.lemmas.List.Sums.{sum_by-cons}
use Rattle.std.specs.Result.{OnOk}
use Rattle.dns_io.specs.declared.io_fault.IoFault.{IoFault}
use Rattle.dns_io.specs.Told.{Grows}
use Rattle.dns_io.proofs.ToldContents.{Grows-more, Grows-nothing}
use Rattle.dns_server_core.specs.declared.event.Event.TheVariants.{Bytes, Ended}
use Rattle.dns_server_core.specs.Connections.{Connection, is_within}
use Rattle.dns_server_core.specs.Order.{Climbs, IsKept}
use Rattle.dns_server_core.specs.Steps.{step}
use Rattle.dns_server_core.proofs.ConnectionTurns.{ended_goes}
use Rattle.dns_server_core.proofs.KeptOrder.{all_at, climbs_kept, step-number}
use Rattle.dns_readiness.specs.Order.{IsFirstBefore}
use Rattle.dns_crowd.specs.Tables.{IsTimed, KeepsTable, ShutsSome, count_before}
use Rattle.dns_crowd.specs.Turns.{ShutsAll, late_number, late_numbers, timely}
use Rattle.dns_crowd.proofs.Closings.{kept_lost}
use Rattle.dns_crowd.proofs.Timed.{behind_front, put_has, put_wider, within_earlier}

-- the front of the order goes
pub front_goes : (order behind : List (ℕ × ℕ)) (last number : ℕ) (f : IsFirstBefore last number order) → behind ≡ drop 1 order → behind ≡ f.others
front_goes order behind last number f e = e ∙ ap (drop 1) f.is

front_other : (last now n : ℕ) (order behind : List (ℕ × ℕ)) (f : IsFirstBefore now n order) → behind ≡ f.others → (k : Connection) → k.number ≢ n → IsTimed last order k → IsTimed last behind k
front_other last now n order behind f e k ne t = record {
  base = t.base;
  at = t.at;
  within = t.within;
  stands = subst (λ (l : List (ℕ × ℕ)). Contains {X = ℕ × ℕ} l (t.at, k.number)) (sym e)
      (behind_front f.at n t.at k.number f.others ne (subst (λ (l : List (ℕ × ℕ)). Contains {X = ℕ × ℕ} l (t.at, k.number)) f.is t.stands));
}

pub front_timed : (last now n : ℕ) (order behind : List (ℕ × ℕ)) (f : IsFirstBefore now n order) → behind ≡ f.others → (ks : List Connection) → AllByRecursion (λ k. k.number ≢ n) ks
    → AllByRecursion (IsTimed last order) ks → AllByRecursion (IsTimed last behind) ks
front_timed last now n order behind f e [] a h = tt
front_timed last now n order behind f e (k ∷ ks) a h = (front_other last now n order behind f e k a.0 h.0, front_timed last now n order behind f e ks a.1 h.1)

before_more : (now : ℕ) (x : ℕ × ℕ) (l : List (ℕ × ℕ)) → x.0 < now → count_before now (x ∷ l) ≡ 1 + count_before now l
before_more now x l h = sum_by-cons (λ (e : ℕ × ℕ). cond (ltb e.0 now) 1 0) x l ∙ ap (λ (b : Bool). cond b 1 0 + count_before now l) (lt-ltb x.0 now h)

before_same : (now : ℕ) (x : ℕ × ℕ) (l : List (ℕ × ℕ)) → now ≤ x.0 → count_before now (x ∷ l) ≡ count_before now l
before_same now x l h =
    let e : count_before now (x ∷ l) ≡ 0 + count_before now l = sum_by-cons (λ (y : ℕ × ℕ). cond (ltb y.0 now) 1 0) x l ∙ ap (λ (b : Bool). cond b 1 0 + count_before now l) (le-ltb x.0 now h) in
    omega (arith, e)

pub front_fewer : (now n : ℕ) (order behind : List (ℕ × ℕ)) (f : IsFirstBefore now n order) → behind ≡ f.others → count_before now behind < count_before now order
front_fewer now n order behind f e =
    let one : count_before now order ≡ 1 + count_before now f.others = ap (count_before now) f.is ∙ before_more now (f.at, n) f.others f.before in
    let same : count_before now behind ≡ count_before now f.others = ap (count_before now) e in
    omega (arith, one, same)

pub off_fewer : (now n until : ℕ) (order after : List (ℕ × ℕ)) (f : IsFirstBefore now n order) → now ≤ until → IsPermutation ((until, n) ∷ f.others) after → count_before now after < count_before now order
off_fewer now n until order after f l m =
    let one : count_before now order ≡ 1 + count_before now f.others = ap (count_before now) f.is ∙ before_more now (f.at, n) f.others f.before in
    let same : count_before now after ≡ count_before now f.others = sum_by-IsPermutation (λ (e : ℕ × ℕ). cond (ltb e.0 now) 1 0) ((until, n) ∷ f.others) after m ∙ before_same now (until, n) f.others l in
    omega (arith, one, same)

others : (P Q : Connection → Type 0) (ks : List Connection) (m n : ℕ) → m ≡ n → ((k : Connection) → k.number ≢ n → P k → Q k) → AllByRecursion (λ j. m < j.number) ks → AllByRecursion P ks → AllByRecursion Q ks
others P Q [] m n e f c h = tt
others P Q (k ∷ ks) m n e f c h = (let p : m < k.number = c.0 in f k (λ q. omega (arith, p, q, e)) h.0, others P Q ks m n e f c.1 h.1)

-- all of them, where the one at a place is of a number and the others are not
pub all_but : (P Q : Connection → Type 0) (ks : List Connection) (i : ℕ) (d : Connection) (n : ℕ) → Climbs ks → i < length ks → (get_or ks i d).number ≡ n → ((k : Connection) → k.number ≢ n → P k → Q k)
    → (P (get_or ks i d) → Q (get_or ks i d)) → AllByRecursion P ks → AllByRecursion Q ks
all_but P Q [] i d n c l e f g h = absurd (omega arith)
all_but P Q (k ∷ ks) zero d n c l e f g h = (g h.0, others P Q ks k.number n e f c.0 h.1)
all_but P Q (k ∷ ks) (suc i) d n c l e f g h =
    let p = all_at (λ j. k.number < j.number) ks i d (omega arith) c.0 in
    (f k (λ q. omega (arith, p, q, e)) h.0, all_but P Q ks i d n c.1 (omega arith) e f g h.1)

-- one that is put off
pub off_timed : (last now n until : ℕ) (order after : List (ℕ × ℕ)) (f : IsFirstBefore now n order) → IsPermutation ((until, n) ∷ f.others) after → (ks : List Connection) (i : ℕ) (d : Connection) → Climbs ks
    → i < length ks → (get_or ks i d).number ≡ n → is_within (get_or ks i d).limit (get_or ks i d).base until ≡ true → AllByRecursion (IsTimed last order) ks → AllByRecursion (IsTimed last after) ks
off_timed last now n until order after f m ks i d c l e w h =
    all_but (IsTimed last order) (IsTimed last after) ks i d n c l e
    (λ k ne t. let s = front_other last now n order f.others f refl k ne t in record { base = s.base; at = s.at; within = s.within; stands = put_wider (until, n) f.others after m (s.at, k.number) s.stands })
    (λ t. record {
      base = t.base;
      at = until;
      within = w;
      stands = subst (λ (j : ℕ). Contains {X = ℕ × ℕ} after (until, j)) (sym e) (put_has (until, n) f.others after m);
    })
    h

-- one that is late goes
pub all_remove : (P : Connection → Type 0) (ks : List Connection) (i : ℕ) → AllByRecursion P ks → AllByRecursion P (remove ks i)
all_remove P [] zero h = tt
all_remove P [] (suc i) h = tt
all_remove P (k ∷ ks) zero h = h.1
all_remove P (k ∷ ks) (suc i) h = (h.0, all_remove P ks i h.1)

pub late_alike : (last : ℕ) (ks : List Connection) (i : ℕ) (d : Connection) → i < length ks → is_within (get_or ks i d).limit (get_or ks i d).base last ≡ false → timely last (remove ks i) ≡ timely last ks
late_alike last [] i d l w = absurd (omega arith)
late_alike last (k ∷ ks) zero d l w = sym (cond-false _ _ _ w)
late_alike last (k ∷ ks) (suc i) d l w = ap (λ (ls : List Connection). cond (is_within k.limit k.base last) (k ∷ ls) ls) (late_alike last ks i d (omega arith) w)

late_one : (last : ℕ) (k : Connection) → is_within k.limit k.base last ≡ false → late_number last k ≡ k.number ∷ []
late_one last k w = cond-false _ _ _ w

pub late_removed : (last : ℕ) (ks : List Connection) (i : ℕ) (d : Connection) → i < length ks → is_within (get_or ks i d).limit (get_or ks i d).base last ≡ false
    → IsPermutation (late_numbers last ks) ((get_or ks i d).number ∷ late_numbers last (remove ks i))
late_removed last [] i d l w = absurd (omega arith)
late_removed last (k ∷ ks) zero d l w =
    subst (λ (ns : List ℕ). IsPermutation (ns ++ late_numbers last ks) (k.number ∷ late_numbers last ks)) (sym (late_one last k w)) (IsPermutation-refl (k.number ∷ late_numbers last ks))
late_removed last (k ∷ ks) (suc i) d l w =
    let n = (get_or ks i d).number in
    IsPermutation-trans (late_number last k ++ late_numbers last ks) (late_number last k ++ n ∷ late_numbers last (remove ks i)) (n ∷ (late_number last k ++ late_numbers last (remove ks i)))
    (IsPermutation-append_right (late_number last k) (late_numbers last ks) (n ∷ late_numbers last (remove ks i)) (late_removed last ks i d (omega arith) w))
    (IsPermutation-middle (late_number last k) n (late_numbers last (remove ks i)))

pub removed_climbs : (ks : List Connection) (i : ℕ) (d : Connection) (n : ℕ) → Climbs ks → i < length ks → (get_or ks i d).number ≡ n → Climbs (remove ks i)
removed_climbs ks i d n c l e =
    subst Climbs (sym (ended_goes 0 n ks i d c l e)) (climbs_kept (step (Ended 0 n)) (step-number (Ended 0 n)) ks c)

pub removed_table : (ks : List Connection) (i : ℕ) (d : Connection) (n : ℕ) → Climbs ks → i < length ks → (get_or ks i d).number ≡ n → KeepsTable ks (remove ks i)
removed_table ks i d n c l e = λ last greatest h.
    let t = kept_lost (record { last = last; greatest = greatest; stopped = false; connections = ks }) (Bytes 0 n []) tt h in
    subst (λ (ls : List Connection). IsKept (record { last = last; greatest = greatest; stopped = false; connections = ls })) (sym (ended_goes 0 n ks i d c l e))
    (record { rests = t.rests; going = t.going; climbs = t.climbs; below = t.below })

pub table_same : (ks : List Connection) → KeepsTable ks ks
table_same ks = λ last greatest h. h

pub table_more : (ks ls ms : List Connection) → KeepsTable ks ls → KeepsTable ls ms → KeepsTable ks ms
table_more ks ls ms f g = λ last greatest h. g last greatest (f last greatest h)

-- what was closed so far
pub some_none : (a : Option (List ℕ)) (ns : List ℕ) → ShutsSome a a ns ns
some_none a ns = record { closed = []; grown = Grows-nothing a; all = IsPermutation-refl ns }

some_one : (a b : Option (List ℕ)) (n : ℕ) (ns ms : List ℕ) → Grows a b (n ∷ []) → IsPermutation ns (n ∷ ms) → ShutsSome a b ns ms
some_one a b n ns ms g p = record { closed = n ∷ []; grown = g; all = p }

pub some_ok : (result : Result (Unit {0}) IoFault) (a b : Option (List ℕ)) (n : ℕ) (ns ms : List ℕ) → OnOk result (Grows a b (n ∷ [])) → IsPermutation ns (n ∷ ms) → OnOk result (ShutsSome a b ns ms)
some_ok (Ok x) a b n ns ms g p = some_one a b n ns ms g p
some_ok (Err fault) a b n ns ms g p = tt

pub some_more : (a b c : Option (List ℕ)) (ns ms ls : List ℕ) → ShutsSome a b ns ms → ShutsSome b c ms ls → ShutsSome a c ns ls
some_more a b c ns ms ls p q = record {
  closed = p.closed ++ q.closed;
  grown = Grows-more a b c p.closed q.closed p.grown q.grown;
  all = subst (IsPermutation ns) (sym (append_assoc p.closed q.closed ls))
      (IsPermutation-trans ns (p.closed ++ ms) (p.closed ++ (q.closed ++ ls)) p.all (IsPermutation-append_right p.closed ms (q.closed ++ ls) q.all));
}

pub some_all : (a b : Option (List ℕ)) (ns ms : List ℕ) → ms ≡ [] → ShutsSome a b ns ms → ShutsAll a b ns
some_all a b ns ms e p = record {
  closed = p.closed;
  grown = p.grown;
  all = subst (IsPermutation ns) (append-nil p.closed) (subst (λ (ls : List ℕ). IsPermutation ns (p.closed ++ ls)) e p.all);
}

-- where none stands in the order before a moment, none is late by it
at_place : (now : ℕ) (order : List (ℕ × ℕ)) (x : ℕ × ℕ) (i : ℕ) → i < length order → get_or order i x ≡ x → AllByRecursion (λ e. now ≤ e.0) order → now ≤ x.0
at_place now [] x i l e h = absurd (omega arith)
at_place now (y ∷ order) x zero l e h = subst (λ (z : ℕ × ℕ). now ≤ z.0) e h.0
at_place now (y ∷ order) x (suc i) l e h = at_place now order x i (omega arith) e h.1

entry_later : (now : ℕ) (order : List (ℕ × ℕ)) (x : ℕ × ℕ) → AllByRecursion (λ e. now ≤ e.0) order → Contains order x → now ≤ x.0
entry_later now order x h c = at_place now order x c.0 c.1 c.2 h

pub none_late : (last : ℕ) (order : List (ℕ × ℕ)) → AllByRecursion (λ e. last ≤ e.0) order → (ks : List Connection) → AllByRecursion (IsTimed last order) ks
    → AllByRecursion (λ k. is_within k.limit k.base last ≡ true) ks
none_late last order o [] h = tt
none_late last order o (k ∷ ks) h = (
  within_earlier k.limit k.base last h.0.at h.0.within (entry_later last order (h.0.at, k.number) o h.0.stands),
  none_late last order o ks h.1,
)

pub all_stay : (last : ℕ) (ks : List Connection) → AllByRecursion (λ k. is_within k.limit k.base last ≡ true) ks → timely last ks ≡ ks
all_stay last [] h = refl
all_stay last (k ∷ ks) h = cond-true _ _ _ h.0 ∙ ap (λ (ls : List Connection). k ∷ ls) (all_stay last ks h.1)

pub no_numbers : (last : ℕ) (ks : List Connection) → AllByRecursion (λ k. is_within k.limit k.base last ≡ true) ks → late_numbers last ks ≡ []
no_numbers last [] h = refl
no_numbers last (k ∷ ks) h = ap (λ (ns : List ℕ). ns ++ late_numbers last ks) (cond-true _ _ _ h.0) ∙ no_numbers last ks h.1

-- what holds of each holds in another order
pub all_moved : (P : ℕ → Type 0) (xs ys : List ℕ) → IsPermutation xs ys → AllByRecursion P xs → AllByRecursion P ys
all_moved P xs ys m h = recursion_from_All P ys (All-permutation P xs ys m (All-from_recursion P xs h))
