-- The name of a text without escapes, in the room that it is written into: each dot gives its place to a label's length.
use Rattle.std.proofs.Common.{◌≡◌, ℕ, ◌+◌, ◌-◌, ◌<◌, ◌≤◌, Bool, true, false, List, [], ◌∷◌, ◌++◌, length, map, get_or, take, drop, set, refl, sym, ap, ◌∙◌, arith, append_assoc, length-append, Option, Some, None, Result, Ok, Err}
use Rattle.std.specs.Prelude.{◌==◌, ◌&&◌, nat_lt, IfSome}
use Rattle.std.specs.List.{AllByRecursion}
use Rattle.std.specs.Str.{bytes_eq}
use Rattle.std.specs.Char.{to_ascii_lowercase}
use Rattle.std.proofs.Math.Seq.{set-append_seam}
use Rattle.std.proofs.lemmas.Bool.{ne_eqb, eq-eqb, eqb-true, le-ltb, lt-ltb}
use Rattle.std.proofs.lemmas.List.{append-nil, at_drop_more, nil_from_length, take-append-drop, take_at, drop_all, map-append, length-map, length_push, length-take-le}
use Rattle.std.proofs.lemmas.List.Concat.{flat_map-append}
use lib.Chars.{codes}
use Rattle.dns_name.specs.declared.fault.ProtoError.{ProtoError}
use Rattle.dns_name.specs.declared.fault.ProtoError.TheVariants.{LabelEmpty}
use Rattle.dns_name.specs.Name.{IsLabel, IsName, name_len, fold_of, label_bytes, labels_bytes}
use Rattle.dns_name.specs.NameText.{symbols_of, labels_from, closed, before, name_of}
use Rattle.dns_name.specs.NameParsing.{ahead}
use Rattle.dns_name.proofs.Wire.{labels_bytes-fold_of, AllByRecursion-fold_of, length-labels_bytes, IsWire-spelled, labels_of-spelled}
use Rattle.dns_name.proofs.Walk.{AllByRecursion-append, labels_bytes-push}
use Rattle.dns_presentation.specs.Values.{ends_in_dot, name_in}
use Rattle.dns_presentation.specs.NameRooms.{Written, Named}

-- a label has just ended
abbrev pub ended : ℕ → ℕ → Bool
ended start place = (start == place) && nat_lt 0 place

-- the labels that ended before a place of the text, and the beginning of one that starts at another place and is still open
pub record Opened (text room : List ℕ) (start place : ℕ) : Type 0 where
  pub labels : List (List ℕ)
  pub label : List ℕ
  pub hole : ℕ
  pub tail : List ℕ
  pub each : AllByRecursion IsLabel labels
  pub start_is : start ≡ length (labels_bytes (fold_of labels))
  pub place_is : place ≡ start + length label
  pub room_is : room ≡ labels_bytes (fold_of labels) ++ hole ∷ (map to_ascii_lowercase label ++ (map to_ascii_lowercase (drop place text) ++ tail))
  pub reading : labels_from [] (symbols_of 0 text) ≡ ahead labels (labels_from label (symbols_of 0 (drop place text)))
  pub dot : ends_in_dot false (ended start place) (drop place text) ≡ ends_in_dot false false text

ahead-nil : (more : Result (List (List ℕ)) ProtoError) → ahead [] more ≡ more
ahead-nil (Ok labels) = refl
ahead-nil (Err error) = refl

ahead-before : (labels : List (List ℕ)) (label : List ℕ) (more : Result (List (List ℕ)) ProtoError) → ahead labels (before label more) ≡ ahead (labels ++ label ∷ []) more
ahead-before labels label (Ok more) = ap Ok (sym (append_assoc labels (label ∷ []) more))
ahead-before labels label (Err error) = refl

closed-label : (label : List ℕ) (more : Result (List (List ℕ)) ProtoError) → IsLabel label → closed label more ≡ before label more
closed-label label more h =
    let some : (length label == 0) ≡ false = ne_eqb (length label) 0 (λ e. omega (arith, e, h.0)) in
    let short : nat_lt 63 (length label) ≡ false = le-ltb 63 (length label) (omega (arith, h.1)) in
    rw (some, short) refl

-- the parts of a room whose text stands behind its first byte
split_room : (room low : List ℕ) → length low < length room → take (length low) (drop 1 room) ≡ low → (hole : ℕ) × (tail : List ℕ) × (room ≡ hole ∷ (low ++ tail))
split_room [] low h e = absurd (omega (arith, h))
split_room (hole ∷ room) low h e = (hole, drop (length low) room, ap (λ xs. hole ∷ xs) (sym (ap (λ front. front ++ drop (length low) room) (sym e) ∙ take-append-drop (length low) room)))

-- nothing is read yet
pub opened : (text room : List ℕ) → length text < length room → take (length text) (drop 1 room) ≡ map to_ascii_lowercase text → Opened text room 0 0
opened text room h e =
    let same = length-map text to_ascii_lowercase in
    let parts = split_room room (map to_ascii_lowercase text) (omega (arith, same, h)) (rw same e) in
    record {
      labels = [];
      label = [];
      hole = parts.0;
      tail = parts.1;
      each = tt;
      start_is = refl;
      place_is = omega arith;
      room_is = parts.2;
      reading = sym (ahead-nil _);
      dot = refl;
    }

module _ (text room : List ℕ) (start place : ℕ) (o : Opened text room start place) (within : place < length text) where
  -- a byte of the label
  byte_read : (get_or text place 0 == 92) ≡ false → (get_or text place 0 == 46) ≡ false → labels_from o.label (symbols_of 0 (drop place text)) ≡ labels_from (o.label ++ get_or text place 0 ∷ []) (symbols_of 0 (drop (place + 1) text))
  byte_read escape dot =
      at_drop_more (λ left. labels_from o.label (symbols_of 0 left)) text place 0 within ∙ rw (dot, escape) refl

  low_more : map to_ascii_lowercase (drop place text) ≡ to_ascii_lowercase (get_or text place 0) ∷ map to_ascii_lowercase (drop (place + 1) text)
  low_more = at_drop_more (map to_ascii_lowercase) text place 0 within

  pub dot_read : (last : Bool) → ends_in_dot false last (drop place text) ≡ ends_in_dot (get_or text place 0 == 92) (get_or text place 0 == 46) (drop (place + 1) text)
  dot_read last = at_drop_more (ends_in_dot false last) text place 0 within

  pub opened_byte : (get_or text place 0 == 92) ≡ false → (get_or text place 0 == 46) ≡ false → Opened text room start (place + 1)
  opened_byte escape dot = record {
    labels = o.labels;
    label = o.label ++ get_or text place 0 ∷ [];
    hole = o.hole;
    tail = o.tail;
    each = o.each;
    start_is = o.start_is;
    place_is = omega (arith, o.place_is, length_push o.label (get_or text place 0));
    room_is = o.room_is ∙ ap (λ xs. labels_bytes (fold_of o.labels) ++ o.hole ∷ xs) (ap (λ xs. map to_ascii_lowercase o.label ++ (xs ++ o.tail)) low_more
        ∙ sym (ap (λ front. front ++ (map to_ascii_lowercase (drop (place + 1) text) ++ o.tail)) (map-append to_ascii_lowercase o.label (get_or text place 0 ∷ [])) ∙ append_assoc (map to_ascii_lowercase o.label) (to_ascii_lowercase (get_or text place 0) ∷ []) _));
    reading = o.reading ∙ ap (ahead o.labels) (byte_read escape dot);
    dot =
        let open_ : ended start (place + 1) ≡ false = rw (ne_eqb start (place + 1) (λ e. omega (arith, e, o.place_is))) refl in
        rw open_ (sym (dot_read (ended start place) ∙ ap (λ escaped. ends_in_dot escaped (get_or text place 0 == 46) (drop (place + 1) text)) escape ∙ ap (λ last. ends_in_dot false last (drop (place + 1) text)) dot) ∙ o.dot);
  }

-- a label that ends at a place, whose length stands before it then
module _ (text room new : List ℕ) (start place : ℕ) (o : Opened text room start place) (some : start < place) (short : place < start + 64) (is : new ≡ set room start (place - start)) where
  is_label : IsLabel o.label
  is_label = (omega (arith, o.place_is, some), omega (arith, o.place_is, short))

  spelled_more : labels_bytes (fold_of (o.labels ++ o.label ∷ [])) ≡ labels_bytes (fold_of o.labels) ++ (length o.label ∷ map to_ascii_lowercase o.label)
  spelled_more =
      ap labels_bytes (map-append (map to_ascii_lowercase) o.labels (o.label ∷ []))
      ∙ labels_bytes-push (fold_of o.labels) (map to_ascii_lowercase o.label)
      ∙ ap (λ n. labels_bytes (fold_of o.labels) ++ n ∷ map to_ascii_lowercase o.label) (length-map o.label to_ascii_lowercase)

  room_more : new ≡ labels_bytes (fold_of (o.labels ++ o.label ∷ [])) ++ (map to_ascii_lowercase (drop place text) ++ o.tail)
  room_more =
      let size : place - start ≡ length o.label = omega (arith, o.place_is) in
      is ∙ rw (size, o.start_is) (ap (λ xs. set xs (length (labels_bytes (fold_of o.labels))) (length o.label)) o.room_is)
      ∙ set-append_seam (labels_bytes (fold_of o.labels)) o.hole _ (length o.label)
      ∙ sym (ap (λ front. front ++ (map to_ascii_lowercase (drop place text) ++ o.tail)) spelled_more ∙ append_assoc (labels_bytes (fold_of o.labels)) (length o.label ∷ map to_ascii_lowercase o.label) _)

  length_more : length (labels_bytes (fold_of (o.labels ++ o.label ∷ []))) ≡ place + 1
  length_more = omega (arith, ap length spelled_more, length-append (labels_bytes (fold_of o.labels)) (length o.label ∷ map to_ascii_lowercase o.label), length-map o.label to_ascii_lowercase, o.start_is, o.place_is)

  each_more : AllByRecursion IsLabel (o.labels ++ o.label ∷ [])
  each_more = AllByRecursion-append o.labels (o.label ∷ []) o.each (is_label, tt)

  -- a dot ends it
  pub opened_dot : place < length text → (get_or text place 0 == 46) ≡ true → Opened text new (place + 1) (place + 1)
  opened_dot within dot = record {
    labels = o.labels ++ o.label ∷ [];
    label = [];
    hole = to_ascii_lowercase (get_or text place 0);
    tail = o.tail;
    each = each_more;
    start_is = sym length_more;
    place_is = omega arith;
    room_is = room_more ∙ ap (λ xs. labels_bytes (fold_of (o.labels ++ o.label ∷ [])) ++ (xs ++ o.tail)) (low_more text room start place o within);
    reading =
        let read : labels_from o.label (symbols_of 0 (drop place text)) ≡ before o.label (labels_from [] (symbols_of 0 (drop (place + 1) text))) =
        at_drop_more (λ left. labels_from o.label (symbols_of 0 left)) text place 0 within ∙ rw dot (closed-label o.label _ is_label) in
        o.reading ∙ ap (ahead o.labels) read ∙ ahead-before o.labels o.label _;
    dot =
        let now : ended (place + 1) (place + 1) ≡ true = rw (eq-eqb (place + 1) (place + 1) refl, lt-ltb 0 (place + 1) (omega arith)) refl in
        let byte : get_or text place 0 ≡ 46 = eqb-true (get_or text place 0) 46 dot in
        let escape : (get_or text place 0 == 92) ≡ false = rw byte refl in
        rw now (sym (dot_read text room start place o within (ended start place) ∙ ap (λ escaped. ends_in_dot escaped (get_or text place 0 == 46) (drop (place + 1) text)) escape ∙ ap (λ last. ends_in_dot false last (drop (place + 1) text)) dot) ∙ o.dot);
  }

folded_length : (labels : List (List ℕ)) → AllByRecursion IsLabel labels → length (labels_bytes (fold_of labels)) ≡ length (labels_bytes labels)
folded_length labels each = ap length (sym (labels_bytes-fold_of labels each)) ∙ length-map (labels_bytes labels) to_ascii_lowercase

-- a text from which labels are read is no dot alone
no_dot_alone : (byte : ℕ) (text : List ℕ) (labels : List (List ℕ)) → labels_from [] (symbols_of 0 (byte ∷ text)) ≡ Ok labels → (byte == 46 && length text == 0) ≡ false
no_dot_alone byte [] labels e = by_dot (byte == 46) refl
  where
    by_dot : (dot : Bool) → (byte == 46) ≡ dot → (byte == 46 && true) ≡ false
    by_dot true is = let bad : ◌≡◌ {A = Result (List (List ℕ)) ProtoError} (Err LabelEmpty) (Ok labels) = (rw is at e) in absurd cc
    by_dot false is = rw is refl
no_dot_alone byte (next ∷ text) labels e = rw (ne_eqb (length (next ∷ text)) 0 (λ none. omega (arith, none))) (by_dot (byte == 46))
  where
    by_dot : (dot : Bool) → (dot && false) ≡ false
    by_dot true = refl
    by_dot false = refl

name_read : (text : List ℕ) (labels : List (List ℕ)) → 0 < length text → labels_from [] (symbols_of 0 text) ≡ Ok labels → name_len labels ≤ 255 → name_of text ≡ Ok labels
unfolding name_of
name_read [] labels some e short = absurd (omega (arith, some))
name_read (byte ∷ text) labels some e short = rw (no_dot_alone byte text labels e, e, le-ltb 255 (name_len labels) short) refl

-- labels that were read are those of the text
written : (text room : List ℕ) (end : ℕ) (labels : List (List ℕ)) (rest : List ℕ) → 0 < length text → AllByRecursion IsLabel labels → labels_from [] (symbols_of 0 text) ≡ Ok labels → room ≡ labels_bytes (fold_of labels) ++ rest → length (labels_bytes (fold_of labels)) ≡ end → end ≤ 254 → ends_in_dot false false text ≡ (end == length text) → Written text room end
written text room end labels rest some each e is size short dot =
    let same = folded_length labels each in
    record {
      labels = labels;
      named = name_read text labels some e (omega (arith, short, size, same, length-labels_bytes labels));
      name = record { each = AllByRecursion-fold_of labels each; short = omega (arith, short, size, length-labels_bytes (fold_of labels)) };
      spelled = ap (take end) is ∙ take_at (labels_bytes (fold_of labels)) rest end size;
      short = short;
      dot = dot;
    }

-- the text ends in a dot
pub written_dot : (text room : List ℕ) (start : ℕ) → Opened text room start (length text) → start ≡ length text → 0 < length text → length text ≤ 253 → Written text room start
written_dot text room start o e some short =
    let all : drop (length text) text ≡ [] = drop_all (length text) text (omega arith) in
    let none : o.label ≡ [] = nil_from_length o.label (omega (arith, o.place_is, e)) in
    let now : ended start (length text) ≡ true = rw (eq-eqb start (length text) e, lt-ltb 0 (length text) some) refl in
    written text room start o.labels _ some o.each (o.reading ∙ rw (all, none) (ap Ok (append-nil o.labels))) o.room_is (sym o.start_is) (omega (arith, e, short))
    (sym o.dot ∙ rw (all, now) (sym (eq-eqb start (length text) e)))

-- the text ends in a label
pub written_label : (text room new : List ℕ) (start : ℕ) → Opened text room start (length text) → start < length text → length text < start + 64 → new ≡ set room start (length text - start) → length text ≤ 253 → Written text new (length text + 1)
written_label text room new start o some short is few =
    let all : drop (length text) text ≡ [] = drop_all (length text) text (omega arith) in
    let open_ : ended start (length text) ≡ false = rw (ne_eqb start (length text) (λ e. omega (arith, e, some))) refl in
    let label = is_label text room new start (length text) o some short is in
    let last : labels_from o.label [] ≡ Ok (o.label ∷ []) = rw (ne_eqb (length o.label) 0 (λ e. omega (arith, e, label.0)), le-ltb 63 (length o.label) (omega (arith, label.1))) refl in
    written text new (length text + 1) (o.labels ++ o.label ∷ []) _ (omega (arith, some)) (each_more text room new start (length text) o some short is)
    (o.reading ∙ rw (all, last) refl)
    (room_more text room new start (length text) o some short is)
    (length_more text room new start (length text) o some short is)
    (omega (arith, few))
    (sym o.dot ∙ rw (all, open_) (sym (ne_eqb (length text + 1) (length text) (λ e. omega (arith, e)))))

-- the labels of an origin, written one behind another
pub origin_step : (room new label : List ℕ) (labels : List (List ℕ)) (end after : ℕ) (whole : List ℕ) → take end room ++ labels_bytes (label ∷ labels) ≡ whole → end ≤ length room → after ≡ end + length label + 1 → new ≡ take end room ++ (label_bytes label ++ drop after room) → take after new ++ labels_bytes labels ≡ whole
origin_step room new label labels end after whole e within size is =
    let front_size : length (take end room ++ label_bytes label) ≡ after = omega (arith, size, length-append (take end room) (label_bytes label), length-take-le end room within) in
    rw (is, sym (append_assoc (take end room) (label_bytes label) (drop after room)), take_at (take end room ++ label_bytes label) (drop after room) after front_size)
    (append_assoc (take end room) (label_bytes label) (labels_bytes labels) ∙ e)

-- a name that ends in a dot is the whole one
pub named_dot : (origin : List (List ℕ)) (text room : List ℕ) (end : ℕ) → bytes_eq text (codes "@") ≡ false → Written text room end → (end == length text) ≡ true → Named origin text room end
unfolding name_in
named_dot origin text room end other w dot = record {
  short = w.short;
  wire = IsWire-spelled (take end room) (fold_of w.labels) w.name w.spelled;
  named = rw (other, w.named, w.dot, dot, labels_of-spelled (take end room) (fold_of w.labels) w.spelled) refl;
}

-- any other is below the origin
pub named_below : (origin : List (List ℕ)) (text room new : List ℕ) (end whole : ℕ) → bytes_eq text (codes "@") ≡ false → length room ≡ 255 → length new ≡ 255 → Written text room end → (end == length text) ≡ false → IsName origin → take whole new ≡ take end room ++ labels_bytes origin → whole ≤ 254 → Named origin text new whole
unfolding name_in
named_below origin text room new end whole other size size_new w dot origin_is is short =
    let name = fold_of w.labels in
    let spelled : take whole new ≡ labels_bytes (name ++ origin) = is ∙ ap (λ front. front ++ labels_bytes origin) w.spelled ∙ sym (flat_map-append label_bytes name origin) in
    let long : whole ≡ length (labels_bytes name) + length (labels_bytes origin) =
    omega (arith, ap length spelled, ap length (flat_map-append label_bytes name origin), length-append (labels_bytes name) (labels_bytes origin), length-take-le whole new (omega (arith, short, size_new))) in
    let fits : nat_lt 256 (name_len name + name_len origin) ≡ false = le-ltb 256 (name_len name + name_len origin) (omega (arith, long, short, length-labels_bytes name, length-labels_bytes origin)) in
    let is_name : IsName (name ++ origin) = record {
      each = AllByRecursion-append name origin w.name.each origin_is.each;
      short = omega (arith, long, short, length-labels_bytes (name ++ origin), ap length (flat_map-append label_bytes name origin), length-append (labels_bytes name) (labels_bytes origin));
    } in
    record {
      short = short;
      wire = IsWire-spelled (take whole new) (name ++ origin) is_name spelled;
      named = rw (other, w.named, w.dot, dot, fits, labels_of-spelled (take whole new) (name ++ origin) spelled) refl;
    }

-- where an origin was written at all
pub named_below_some : (origin : List (List ℕ)) (text room new : List ℕ) (end : ℕ) (whole : Option ℕ) → bytes_eq text (codes "@") ≡ false → length room ≡ 255 → length new ≡ 255 → Written text room end → (end == length text) ≡ false → IsName origin → IfSome whole (λ n. take n new ≡ take end room ++ labels_bytes origin) → IfSome whole (λ n. n ≤ 254) → IfSome whole (λ n. Named origin text new n)
named_below_some origin text room new end None other size size_new w dot origin_is is short = tt
named_below_some origin text room new end (Some whole) other size size_new w dot origin_is is short = named_below origin text room new end whole other size size_new w dot origin_is is short
