use Rattle.std.proofs.Common.{◌≡◌, ◌≤◌, ◌+ℤ◌, pos, length, take, slice_get, Some, None, subst, ◌∙◌, rules, to_z, of_z}
use Rattle.std.specs.Int.{w64}
use Rattle.std.proofs.lemmas.Int.{to_z-of_z}
use Rattle.std.proofs.lemmas.Option.{slice_get_past}
use Rattle.dns_keeper.specs.Packed.{numbered, parts, IsPlaceFrom, IsFound}
use Rattle.dns_keeper.proofs.Packing.{start_within, length-parts, row_of, found}
use Rattle.dns_keeper.proofs.packed_rows.PackedRows.first_from.Goals as goal

pub split_at-requires : goal.split_at-requires
split_at-requires c =
    rw c.as_slice-bytes.ensures.value (start_within c.self.inside.start c.self.inside.ends.items (length c.self.inside.bytes.items) c.self.invariant.1)

pub returns-in_default : goal.returns-in_default
returns-in_default c =
    let p = c.self.inside in
    let stamp = take p.start p.bytes.items in
    let texts = parts p.start p.ends.items p.bytes.items in
    let place = c.place_from-id.result.1 in
    let is : IsPlaceFrom p.first c.args.id place = rw (to_z-of_z w64 p.first c.self.invariant.0, to_z-of_z w64 c.args.id c.ranges.id) at c.place_from-id.ensures.place in
    let least = rw (to_z-of_z w64 c.args.id c.ranges.id) at c.place_from-id.ensures.least in
    let long : length p.ends.items ≤ place = search rules in
    let past : slice_get texts place ≡ None = slice_get_past texts place (rw (length-parts p.start p.ends.items p.bytes.items) long) in
    rw (← c.self.view_is)
    (subst (λ o. IsFound c.args.id (numbered p.first p.client p.serial stamp texts) (row_of (p.first +ℤ pos place) p.client p.serial stamp o)) past
    (found c.args.id p.first place p.client p.serial stamp texts is least))

pub returns : goal.returns
returns c =
    let p = c.self.inside in
    let texts = parts p.start p.ends.items p.bytes.items in
    let stamp = take p.start p.bytes.items in
    let place = c.place_from-id.result.1 in
    let is : IsPlaceFrom p.first c.args.id place = rw (to_z-of_z w64 p.first c.self.invariant.0, to_z-of_z w64 c.args.id c.ranges.id) at c.place_from-id.ensures.place in
    let least = rw (to_z-of_z w64 c.args.id c.ranges.id) at c.place_from-id.ensures.least in
    let part : slice_get texts place ≡ Some c.in_ok-from_slice-2.field-0 = search rules in
    let stamped : c.in_ok-from_slice.field-0 ≡ stamp = search rules in
    let id : to_z w64 (of_z w64 c.place_from-id.result.0) ≡ p.first +ℤ pos place =
    to_z-of_z w64 c.place_from-id.result.0 c.place_from-id.ensures.fits ∙ (rw (to_z-of_z w64 p.first c.self.invariant.0) at c.place_from-id.ensures.id) in
    let client : to_z w64 (of_z w64 c.from.result) ≡ pos p.client = search rules in
    let serial : to_z w64 (of_z w64 c.from-2.result) ≡ pos p.serial = search rules in
    rw (← c.self.view_is)
    (rw (id, client, serial, stamped) (subst (λ o. IsFound c.args.id (numbered p.first p.client p.serial stamp texts) (row_of (p.first +ℤ pos place) p.client p.serial stamp o)) part
    (found c.args.id p.first place p.client p.serial stamp texts is least)))
