-- What is kept of lines as they are read is what they say together.
use Rattle.std.proofs.Common.{◌≡◌, ℕ, ◌+◌, ◌-◌, ◌≤◌, Bool, true, false, not, cond, List, [], ◌∷◌, ◌++◌, length, Option, Some, None, Result, Ok, Err, refl, sym, ap, ◌∙◌, length-append, length-drop, arith}
use Rattle.std.specs.List.{after_last, filter_map, position_from, prefix_len, suffix_len}
use Rattle.std.specs.Option.{option_or}
use Rattle.std.proofs.lemmas.List.{append-nil, reverse-append, drop-append-le}
use Rattle.std.proofs.lemmas.List.Elements.{filter_map-append}
use Rattle.std.proofs.lemmas.List.Sums.{suffix_len-le-length}
use Rattle.std.proofs.Math.ListN.{drop_of_length-le}
use Rattle.dns_wire.specs.declared.record.Record.{Record}
use Rattle.dns_update_script.specs.declared.fault.ScriptKind.{ScriptKind}
use Rattle.dns_update_script.specs.declared.fault.ScriptFault.{ScriptFault}
use Rattle.dns_update_script.specs.declared.line.Line.{Line}
use Rattle.dns_update_script.specs.declared.line.Line.TheVariants.{Nothing, Zone, Prerequisite, Change, Send}
use Rattle.dns_update_script.specs.declared.script.Sending.{Sending}
use Rattle.dns_update_script.specs.Line.{line_of}
use Rattle.dns_update_script.specs.Script.{is_send, zone_of, prerequisite_in, change_in, is_update, last_zone, unsent, sending_to, first_unsent, ended, at_line, before, sent, sendings_from}
use Rattle.dns_update_script.specs.Reading.{Standing, kept, sending_at, sent_at, sendings_behind, ahead}

-- the elements that do not pass
abbrev fails : {X : Type 0} → (X → Bool) → X → Bool
fails p x = not (p x)

-- how many pass the test at the end of a longer list
suffix_len-more : {X : Type 0} (p : X → Bool) (xs : List X) (x : X) → suffix_len p (xs ++ x ∷ []) ≡ cond (p x) (1 + suffix_len p xs) 0
suffix_len-more p xs x = ap (prefix_len p) (reverse-append xs (x ∷ []))

-- what stands after the last that passes, in a longer list
after_last-passed : {X : Type 0} (p : X → Bool) (xs : List X) (x : X) → p x ≡ true → after_last p (xs ++ x ∷ []) ≡ []
after_last-passed p xs x is =
    let none : suffix_len (fails p) (xs ++ x ∷ []) ≡ 0 = suffix_len-more (fails p) xs x ∙ rw is refl in
    drop_of_length-le (xs ++ x ∷ []) (omega (arith, none))

after_last-failed : {X : Type 0} (p : X → Bool) (xs : List X) (x : X) → p x ≡ false → after_last p (xs ++ x ∷ []) ≡ after_last p xs ++ x ∷ []
after_last-failed p xs x is =
    let one : suffix_len (fails p) (xs ++ x ∷ []) ≡ 1 + suffix_len (fails p) xs = suffix_len-more (fails p) xs x ∙ rw is refl in
    let within : suffix_len (fails p) xs ≤ length xs = suffix_len-le-length (fails p) xs in
    let place : length (xs ++ x ∷ []) - suffix_len (fails p) (xs ++ x ∷ []) ≡ length xs - suffix_len (fails p) xs = omega (arith, one, within, length-append xs (x ∷ [])) in
    rw place (drop-append-le (length xs - suffix_len (fails p) xs) xs (x ∷ []) (omega arith))

-- it is no longer
length-after_last : {X : Type 0} (p : X → Bool) (xs : List X) → length (after_last p xs) ≤ length xs
length-after_last p xs = omega (arith, length-drop (length xs - suffix_len (fails p) xs) xs)

-- the first that passes in a longer list
position_from-more : {X : Type 0} (p : X → Bool) (n : ℕ) (xs : List X) (x : X) → position_from p n (xs ++ x ∷ []) ≡ option_or (position_from p n xs) (cond (p x) (Some (n + length xs)) None)
position_from-more p n [] x = let e : n + 0 ≡ n = omega arith in rw e refl
position_from-more p n (y ∷ xs) x = by_test (p y) (position_from-more p (n + 1) xs x)
  where
    by_test : (test : Bool) → position_from p (n + 1) (xs ++ x ∷ []) ≡ option_or (position_from p (n + 1) xs) (cond (p x) (Some (n + 1 + length xs)) None)
        → cond test (Some n) (position_from p (n + 1) (xs ++ x ∷ [])) ≡ option_or (cond test (Some n) (position_from p (n + 1) xs)) (cond (p x) (Some (n + length (y ∷ xs))) None)
    by_test true more = refl
    by_test false more =
        let e : n + length (y ∷ xs) ≡ n + 1 + length xs = omega arith in
        rw e more

option_or-assoc : {X : Type 0} (a b c : Option X) → option_or (option_or a b) c ≡ option_or a (option_or b c)
option_or-assoc None b c = refl
option_or-assoc (Some x) b c = refl

option_or-none : {X : Type 0} (a : Option X) → option_or a None ≡ a
option_or-none None = refl
option_or-none (Some x) = refl

-- the last zone of longer lines
last_zone-more : (front : List Line) (said : Line) → last_zone (front ++ said ∷ []) ≡ option_or (zone_of said) (last_zone front)
last_zone-more [] said = sym (option_or-none (zone_of said))
last_zone-more (line ∷ front) said =
    ap (λ zone. option_or zone (zone_of line)) (last_zone-more front said) ∙ option_or-assoc (zone_of said) (last_zone front) (zone_of line)

-- what lines leave, told over all of them
abbrev pub standing_of : List Line → Standing
standing_of front = record {
  lines = length front;
  zone = last_zone front;
  prerequisites = filter_map prerequisite_in (unsent front);
  changes = filter_map change_in (unsent front);
  first = first_unsent front;
}

-- the lines behind the last `send`, with one more that is none
module _ (front : List Line) (said : Line) (other : is_send said ≡ false) where
  unsent_more : unsent (front ++ said ∷ []) ≡ unsent front ++ said ∷ []
  unsent_more = after_last-failed is_send front said other

  count_more : length (front ++ said ∷ []) ≡ length front + 1
  count_more = length-append front (said ∷ [])

  first_more : first_unsent (front ++ said ∷ []) ≡ option_or (first_unsent front) (cond (is_update said) (Some (length front + 1)) None)
  first_more =
      let within : length (unsent front) ≤ length front = length-after_last is_send front in
      let begin : length (front ++ said ∷ []) - length (unsent (front ++ said ∷ [])) + 1 ≡ length front - length (unsent front) + 1 =
      omega (arith, count_more, ap length unsent_more, length-append (unsent front) (said ∷ [])) in
      let place : length front - length (unsent front) + 1 + length (unsent front) ≡ length front + 1 = omega (arith, within) in
      ap (λ n. position_from is_update n (unsent (front ++ said ∷ []))) begin
      ∙ ap (position_from is_update (length front - length (unsent front) + 1)) unsent_more
      ∙ position_from-more is_update (length front - length (unsent front) + 1) (unsent front) said
      ∙ ap (λ n. option_or (first_unsent front) (cond (is_update said) (Some n) None)) place

  listed_more : {X : Type 0} (h : Line → Option X) → filter_map h (unsent (front ++ said ∷ [])) ≡ filter_map h (unsent front) ++ filter_map h (said ∷ [])
  listed_more h = ap (filter_map h) unsent_more ∙ filter_map-append h (unsent front) (said ∷ [])

-- what is kept is the same where each part is
same_standing : {lines lines' : ℕ} {zone zone' : Option (List (List ℕ))} {prerequisites prerequisites' changes changes' : List Record} {first first' : Option ℕ}
    → lines' ≡ lines → zone' ≡ zone → prerequisites' ≡ prerequisites → changes' ≡ changes → first' ≡ first
    → let before : Standing = record { lines = lines; zone = zone; prerequisites = prerequisites; changes = changes; first = first } in
    let after : Standing = record { lines = lines'; zone = zone'; prerequisites = prerequisites'; changes = changes'; first = first' } in
    before ≡ after
same_standing l z p c f = rw (l, z, p, c, f) refl

-- it is what is kept line by line
pub kept-standing_of : (front : List Line) (said : Line) → kept (standing_of front) said ≡ standing_of (front ++ said ∷ [])
kept-standing_of front Nothing =
    same_standing (count_more front Nothing refl) (last_zone-more front Nothing)
    (listed_more front Nothing refl prerequisite_in ∙ append-nil (filter_map prerequisite_in (unsent front)))
    (listed_more front Nothing refl change_in ∙ append-nil (filter_map change_in (unsent front)))
    (first_more front Nothing refl ∙ option_or-none (first_unsent front))
kept-standing_of front (Zone name) =
    same_standing (count_more front (Zone name) refl) (last_zone-more front (Zone name))
    (listed_more front (Zone name) refl prerequisite_in ∙ append-nil (filter_map prerequisite_in (unsent front)))
    (listed_more front (Zone name) refl change_in ∙ append-nil (filter_map change_in (unsent front)))
    (first_more front (Zone name) refl ∙ option_or-none (first_unsent front))
kept-standing_of front (Prerequisite r) =
    same_standing (count_more front (Prerequisite r) refl) (last_zone-more front (Prerequisite r))
    (listed_more front (Prerequisite r) refl prerequisite_in)
    (listed_more front (Prerequisite r) refl change_in ∙ append-nil (filter_map change_in (unsent front)))
    (first_more front (Prerequisite r) refl)
kept-standing_of front (Change r) =
    same_standing (count_more front (Change r) refl) (last_zone-more front (Change r))
    (listed_more front (Change r) refl prerequisite_in ∙ append-nil (filter_map prerequisite_in (unsent front)))
    (listed_more front (Change r) refl change_in)
    (first_more front (Change r) refl)
kept-standing_of front Send =
    let none : unsent (front ++ Send ∷ []) ≡ [] = after_last-passed is_send front Send refl in
    same_standing (length-append front (Send ∷ [])) (last_zone-more front Send)
    (ap (filter_map prerequisite_in) none)
    (ap (filter_map change_in) none)
    (ap (position_from is_update (length (front ++ Send ∷ []) - length (unsent (front ++ Send ∷ [])) + 1)) none)

-- a line sends what stands behind the last `send`
sending-standing_of : (front : List Line) (zone : Option (List (List ℕ))) → sending_at zone (standing_of front) ≡ sending_to zone (unsent front)
sending-standing_of front None = refl
sending-standing_of front (Some zone) = refl

sent-standing_of : (front : List Line) (said : Line) (more : Result (List Sending) ScriptFault) → sent_at (standing_of front) said more ≡ sent front said more
sent-standing_of front Nothing more = refl
sent-standing_of front (Zone name) more = refl
sent-standing_of front (Prerequisite r) more = refl
sent-standing_of front (Change r) more = refl
sent-standing_of front Send more = ap (λ sending. at_line (length front + 1) sending (λ sending. before sending more)) (sending-standing_of front (last_zone front))

-- so the sendings are the same
pub sendings-standing_of : (front : List Line) (lines : List (List ℕ)) → sendings_behind (standing_of front) lines ≡ sendings_from front lines
sendings-standing_of front [] = refl
sendings-standing_of front (line ∷ lines) = by_line (line_of line) (λ said. sendings-standing_of (front ++ said ∷ []) lines)
  where
    by_line : (found : Result Line ScriptKind) → ((said : Line) → sendings_behind (standing_of (front ++ said ∷ [])) lines ≡ sendings_from (front ++ said ∷ []) lines)
        → at_line (length front + 1) found (λ said. sent_at (standing_of front) said (sendings_behind (kept (standing_of front) said) lines))
        ≡ at_line (length front + 1) found (λ said. sent front said (sendings_from (front ++ said ∷ []) lines))
    by_line (Err wrong) more = refl
    by_line (Ok said) more =
        sent-standing_of front said (sendings_behind (kept (standing_of front) said) lines)
        ∙ ap (sent front said) (ap (λ standing. sendings_behind standing lines) (kept-standing_of front said) ∙ more said)

-- before any line
pub ahead-none : (found : Result (List Sending) ScriptFault) → ahead [] found ≡ found
ahead-none (Ok sendings) = refl
ahead-none (Err fault) = refl

pub sendings-first : (prerequisites changes : List Record) (found : List Sending) (lines : List (List ℕ)) → prerequisites ≡ [] → changes ≡ [] → found ≡ []
    → ahead found (sendings_behind (record { lines = 0; zone = None; prerequisites = prerequisites; changes = changes; first = None }) lines) ≡ sendings_from [] lines
sendings-first prerequisites changes found lines no_prerequisites no_changes none =
    rw (no_prerequisites, no_changes, none) (ahead-none (sendings_behind (standing_of []) lines) ∙ sendings-standing_of [] lines)

-- behind all lines
pub sendings-last : (found : List Sending) (standing : Standing) (lines : List (List ℕ)) (script : Result (List Sending) ScriptFault)
    → ahead found (sendings_behind standing lines) ≡ script → lines ≡ [] → standing.first ≡ None → script ≡ Ok found
sendings-last found standing lines script same none sent =
    sym same ∙ ap (λ lines. ahead found (sendings_behind standing lines)) none ∙ ap (λ first. ahead found (ended first)) sent ∙ ap Ok (append-nil found)
