-- The sets of a name stay sets of the name when a record of the name is put among them.
use Rattle.std.proofs.Common.{◌≡◌, ℕ, ◌+◌, ◌<◌, ◌≤◌, Bool, true, false, List, [], ◌∷◌, ◌++◌, length, map, refl, sym, ap, ◌∙◌, subst, arith, if◌then◌else◌, length-append}
use Rattle.std.specs.List.{AllByRecursion, list_any}
use Rattle.std.proofs.lemmas.List.{length-map}
use Rattle.dns_wire.specs.declared.record.Record.{Record}
use Rattle.dns_zone_map.specs.declared.sets.RecordSet.{RecordSet}
use Rattle.dns_zone_map.specs.Zone.{is_rival}
use Rattle.dns_zone_map.specs.Order.{numbered, IsRising, AreBelow}
use Rattle.dns_zone_map.specs.Changes.{put_over, replace_if, AtMostOne, at_record}
use Rattle.dns_zone_map.specs.Sets.{TypesRise, in_set}
use Rattle.dns_zone_map.specs.Tree.{Belongs, IsSet}
use Rattle.dns_zone_map.specs.Insertion.{put_in_set, new_set}
use Rattle.dns_zone_map.proofs.Putting.{put_place}
use Rattle.dns_zone_map.proofs.Exists.{all_append}
use Rattle.dns_zone_map.proofs.Rest.{all_front, all_back}

over_if : (P : Record → Type 0) (b : Bool) (test : Record → Bool) (r s : Record) (records : List Record) → P r → P s → AllByRecursion P records → AllByRecursion P (put_over test r records) → AllByRecursion P (if b then r ∷ records else s ∷ put_over test r records)
over_if P true test r s records new old rest put = (new, rest)
over_if P false test r s records new old rest put = (old, put)

-- what holds of a record and of others holds of them when the record came to them
pub all_over : (P : Record → Type 0) (test : Record → Bool) (r : Record) (records : List Record) → P r → AllByRecursion P records → AllByRecursion P (put_over test r records)
all_over P test r [] new all = (new, tt)
all_over P test r (s ∷ records) new all = over_if P (test s) test r s records new all.0 all.1 (all_over P test r records new all.1)

pub numbered_map : (f : Record → Record) (ns : List ℕ) (rs : List Record) → numbered ns (map f rs) ≡ map (at_record f) (numbered ns rs)
numbered_map f [] rs = refl
numbered_map f (n ∷ ns) [] = refl
numbered_map f (n ∷ ns) (r ∷ rs) = ap (λ xs. record { number = n; one = f r } ∷ xs) (numbered_map f ns rs)

numbered_end : (n : ℕ) (r : Record) (ns : List ℕ) (rs : List Record) → length ns ≡ length rs → numbered (ns ++ n ∷ []) (rs ++ r ∷ []) ≡ numbered ns rs ++ record { number = n; one = r } ∷ []
numbered_end n r [] [] h = refl
numbered_end n r [] (s ∷ rs) h = absurd (omega arith)
numbered_end n r (m ∷ ns) [] h = absurd (omega arith)
numbered_end n r (m ∷ ns) (s ∷ rs) h = ap (λ xs. record { number = m; one = s } ∷ xs) (numbered_end n r ns rs (omega arith))

-- the numbers of a set are numbers of its records
pub numbers_back : (P : ℕ → Type 0) (ns : List ℕ) (rs : List Record) → length ns ≡ length rs → AllByRecursion (λ x. P x.number) (numbered ns rs) → AllByRecursion P ns
numbers_back P [] rs h a = tt
numbers_back P (n ∷ ns) [] h a = absurd (omega arith)
numbers_back P (n ∷ ns) (r ∷ rs) h a = (a.0, numbers_back P ns rs (omega arith) a.1)

rising_end : (n : ℕ) (ns : List ℕ) → AllByRecursion (λ m. m < n) ns → IsRising ns → IsRising (ns ++ n ∷ [])
rising_end n [] h r = (tt, tt)
rising_end n (m ∷ ns) h r = (all_append (λ k. m ≤ k) ns (n ∷ []) r.0 (let l : m < n = h.0 in omega arith, tt), rising_end n ns h.1 r.1)

module _ (number : ℕ) (one : Record) (s : RecordSet) where
  put_yes : list_any (is_rival one) s.records ≡ true → put_in_set number one s ≡ record { rtype = s.rtype; records = put_over (is_rival one) one s.records; numbers = s.numbers }
  put_yes h = rw h refl

  put_no : list_any (is_rival one) s.records ≡ false → put_in_set number one s ≡ record { rtype = s.rtype; records = s.records ++ one ∷ []; numbers = s.numbers ++ number ∷ [] }
  put_no h = rw h refl

  pub set_replaced : AtMostOne (is_rival one) s.records → list_any (is_rival one) s.records ≡ true → in_set (put_in_set number one s) ≡ map (at_record (replace_if (is_rival one) one)) (in_set s)
  set_replaced few any =
      ap in_set (put_yes any) ∙ ap (numbered s.numbers) (put_place (is_rival one) one s.records few any) ∙ numbered_map (replace_if (is_rival one) one) s.numbers s.records

  pub set_added : length s.numbers ≡ length s.records → list_any (is_rival one) s.records ≡ false → in_set (put_in_set number one s) ≡ in_set s ++ record { number = number; one = one } ∷ []
  set_added paired none = ap in_set (put_no none) ∙ numbered_end number one s.numbers s.records paired

  pub put_type : (put_in_set number one s).rtype ≡ s.rtype
  put_type = typed (list_any (is_rival one) s.records) refl
    where
      typed : (b : Bool) → list_any (is_rival one) s.records ≡ b → (put_in_set number one s).rtype ≡ s.rtype
      typed true h = ap (λ (t : RecordSet). t.rtype) (put_yes h)
      typed false h = ap (λ (t : RecordSet). t.rtype) (put_no h)

  module _ (origin : List (List ℕ)) (key : List ℕ) (is : IsSet origin key s) (one_in : Belongs origin key s.rtype one) (few : AtMostOne (is_rival one) s.records) (below : AreBelow number (in_set s)) where
    put_is : (b : Bool) → list_any (is_rival one) s.records ≡ b → IsSet origin key (put_in_set number one s)
    put_is true h =
        let long : length (put_over (is_rival one) one s.records) ≡ length s.records = ap length (put_place (is_rival one) one s.records few h) ∙ length-map s.records (replace_if (is_rival one) one) in
        subst (IsSet origin key) (sym (put_yes h))
        (record { filled = omega (arith, long, is.filled); paired = is.paired ∙ sym long; belong = all_over (Belongs origin key s.rtype) (is_rival one) one s.records one_in is.belong; rising = is.rising })
    put_is false h =
        let longer : length (s.records ++ one ∷ []) ≡ length s.records + 1 = omega (arith, length-append s.records (one ∷ [])) in
        subst (IsSet origin key) (sym (put_no h))
        (record {
          filled = omega (arith, longer);
          paired = omega (arith, longer, is.paired, length-append s.numbers (number ∷ []));
          belong = all_append (Belongs origin key s.rtype) s.records (one ∷ []) is.belong (one_in, tt);
          rising = rising_end number s.numbers (numbers_back (λ m. m < number) s.numbers s.records is.paired below) is.rising;
        })

    pub is_set_put : IsSet origin key (put_in_set number one s)
    is_set_put = put_is (list_any (is_rival one) s.records) refl

pub is_set_new : (number : ℕ) (one : Record) (origin : List (List ℕ)) (key : List ℕ) → Belongs origin key one.rtype one → IsSet origin key (new_set number one)
is_set_new number one origin key in_ = record { filled = omega arith; paired = refl; belong = (in_, tt); rising = (tt, tt) }

-- where types rise
pub rise_lower : (front back : List RecordSet) (s : RecordSet) → TypesRise (front ++ s ∷ back) → AllByRecursion (λ t. t.rtype < s.rtype) front
rise_lower [] back s h = tt
rise_lower (f ∷ front) back s h = ((all_back (λ t. f.rtype < t.rtype) front (s ∷ back) h.0).0, rise_lower front back s h.1)

pub rise_upper : (front back : List RecordSet) (s : RecordSet) → TypesRise (front ++ s ∷ back) → AllByRecursion (λ t. s.rtype < t.rtype) back
rise_upper [] back s h = h.0
rise_upper (f ∷ front) back s h = rise_upper front back s h.1

pub rise_same : (front back : List RecordSet) (s t : RecordSet) → t.rtype ≡ s.rtype → TypesRise (front ++ s ∷ back) → TypesRise (front ++ t ∷ back)
rise_same [] back s t e h = (subst (λ n. AllByRecursion (λ u. n < u.rtype) back) (sym e) h.0, h.1)
rise_same (f ∷ front) back s t e h =
    (all_append (λ u. f.rtype < u.rtype) front (t ∷ back) (all_front (λ u. f.rtype < u.rtype) front (s ∷ back) h.0) (subst (λ n. f.rtype < n) (sym e) (all_back (λ u. f.rtype < u.rtype) front (s ∷ back) h.0).0, (all_back (λ u. f.rtype < u.rtype) front (s ∷ back) h.0).1), rise_same front back s t e h.1)

pub rise_new : (front back : List RecordSet) (t : RecordSet) → AllByRecursion (λ s. s.rtype < t.rtype) front → AllByRecursion (λ s. t.rtype < s.rtype) back → TypesRise (front ++ back) → TypesRise (front ++ t ∷ back)
rise_new [] back t l u h = (u, h)
rise_new (f ∷ front) back t l u h =
    (all_append (λ s. f.rtype < s.rtype) front (t ∷ back) (all_front (λ s. f.rtype < s.rtype) front back h.0) (l.0, all_back (λ s. f.rtype < s.rtype) front back h.0), rise_new front back t l.1 u h.1)
