use Rattle.std.proofs.Common.{◌≡◌, ◌∙◌, length, refl, arith}
use Rattle.std.proofs.lemmas.Bool.{ne_eqb, eq-eqb}
use Rattle.dns_presentation.proofs.NameRooms.{Opened, opened, opened_byte, opened_dot, written_dot, written_label}
use Rattle.dns_name.proofs.FirstLabel.{some_bytes}
use Rattle.dns_presentation.proofs.names.put_labels.Goals as goal
use Rattle.dns_presentation.proofs.names.put_labels.Goals.{then-byte-eq46+else-not-put_length, else-byte-eq46}

pub loop-place-init : goal.loop-place-init
loop-place-init c =
    (c.put_text.ensures.size ∙ c.requires, opened _ _ (omega (arith, c.put_text.ensures.size, c.requires, c.if-text-gt-MAX_TEXT_LEN.false)) c.put_text.ensures.put)

pub loop-place-preserved : goal.loop-place-preserved
loop-place-preserved c = elim c.if-byte-eq46.branch [
  | then-byte-eq46+else-not-put_length w ↦
      let label = w.if-not-put_length.ensures.label refl in
      rw (w.room-is, w.start-is) (
        w.if-not-put_length.ensures.size ∙ c.loop-place.invariant.0,
        opened_dot _ _ _ _ _ c.loop-place.invariant.1 label.0 label.1 (w.if-not-put_length.ensures.put refl) c.loop-place-test.true (eq-eqb _ 46 w.if-byte-eq46.true),
      )
  | else-byte-eq46 w ↦
      rw (w.room-is, w.start-is) (c.loop-place.invariant.0, opened_byte _ _ _ _ c.loop-place.invariant.1 c.loop-place-test.true (ne_eqb _ 92 c.if-byte-eq92.false) (ne_eqb _ 46 w.if-byte-eq46.false))
]

pub returns-then-start-text-clause-written : goal.returns-then-start-text-clause-written
returns-then-start-text-clause-written c =
    let all : c.loop-place.place ≡ length c.args.text.now = omega (arith, c.loop-place-test.false, c.loop-place.auto.place-end) in
    let o : Opened c.args.text.now c.loop-place.room c.loop-place.start (length c.args.text.now) = rw all at c.loop-place.invariant.1 in
    written_dot _ _ _ o c.if-start-text.true (some_bytes _ c.if-is_empty.ensures) c.if-text-gt-MAX_TEXT_LEN.false

pub returns-clause-written : goal.returns-clause-written
returns-clause-written c =
    let all : c.loop-place.place ≡ length c.args.text.now = omega (arith, c.loop-place-test.false, c.loop-place.auto.place-end) in
    let o : Opened c.args.text.now c.loop-place.room c.loop-place.start (length c.args.text.now) = rw all at c.loop-place.invariant.1 in
    let label = c.if-not-put_length-2.ensures.label refl in
    written_label _ _ _ _ o label.0 label.1 (c.if-not-put_length-2.ensures.put refl) c.if-text-gt-MAX_TEXT_LEN.false
