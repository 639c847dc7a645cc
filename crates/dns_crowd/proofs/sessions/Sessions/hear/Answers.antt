-- One connection hears, and no other.
use Rattle.std.proofs.Common.{◌≡◌, ◌∙◌, ℕ, List, [], ◌∷◌, ap, refl, set, subst, sym}
use Rattle.std.specs.List.{filter_map}
use Rattle.std.proofs.lemmas.Bool.{cond-true, cond-false}
use Rattle.dns_server_core.specs.declared.event.Event.TheVariants.{Bytes, Ended}
use Rattle.dns_server_core.specs.Connections.{Connection}
use Rattle.dns_server_core.specs.Steps.{completed_now, heard_messages, piece_at, step}
use Rattle.dns_server_core.proofs.ConnectionTurns.{ended_goes, piece_asks, piece_goes, piece_none, piece_silent, piece_stays}
use Rattle.dns_crowd.specs.Replies.{Falters, RepliesTo}
use Rattle.dns_crowd.specs.Slots.{open_in, vacated}
use Rattle.dns_crowd.specs.Turns.{IsShut, done_by, numbers_of}
use Rattle.dns_crowd.specs.declared.sessions.Slot.{Slot}
use Rattle.dns_crowd.proofs.Closings.{removed_shut}
use Rattle.dns_crowd.proofs.FramedReplies.{falters_same, replies_none, replies_same}
use Rattle.dns_crowd.proofs.Placed.{found_open, moved_number, open_climbs}
use Rattle.dns_crowd.proofs.Shutting.{goes_done, none_done, stays_done}
use Rattle.dns_crowd.proofs.sessions.Sessions.hear.Goals as goal

pub returns-in_default-clause-ok : goal.returns-in_default-clause-ok
returns-in_default-clause-ok g c =
    let none = rw c.as_slice.ensures.value at c.in_default.ensures.none in
    subst (λ (l : List Connection). l ≡ filter_map (step (Bytes c.args.at c.args.number c.args.piece.now)) l) c.self.view_is
    (piece_none c.args.at c.args.number c.args.piece.now (open_in c.self.inside.slots.items) (none c.self.invariant))

pub returns-in_default-clause-ran : goal.returns-in_default-clause-ran
returns-in_default-clause-ran g c =
    let serves = g.H.RequestHandler.serves c.args.access.now in
    let none = rw c.as_slice.ensures.value at c.in_default.ensures.none in
    let ks : List Connection = open_in c.self.inside.slots.items in
    subst (λ (l : List Connection). RepliesTo serves c.args.handler.now (completed_now (Bytes c.args.at c.args.number c.args.piece.now) l) c.args.handler.now c.args.number c.args.replies.now.items c.args.replies.now.items) c.self.view_is
    (replies_same serves c.args.number c.args.handler.now c.args.handler.now [] (completed_now (Bytes c.args.at c.args.number c.args.piece.now) ks) _ _
    (sym (piece_silent c.args.at c.args.number c.args.piece.now ks [] (none c.self.invariant)))
    (replies_none serves c.args.number c.args.handler.now c.args.replies.now.items))

pub returns-in_default-clause-shuts : goal.returns-in_default-clause-shuts
returns-in_default-clause-shuts g c =
    let none = rw c.as_slice.ensures.value at c.in_default.ensures.none in
    subst (λ (l : List Connection). done_by (Bytes c.args.at c.args.number c.args.piece.now) l ≡ []) c.self.view_is
    (none_done c.args.at c.args.number c.args.piece.now (open_in c.self.inside.slots.items) (none c.self.invariant))

pub invariant_of-self : goal.invariant_of-self
invariant_of-self g c =
    let ss : List Slot = c.self.inside.slots.items in
    let d : Slot = c.index_mut.result.now in
    let inside = rw c.as_slice.ensures.value at c.in-Some.ensures.inside in
    let found = rw c.as_slice.ensures.value at c.in-Some.ensures.found d in
    let stands = rw c.as_slice.ensures.value at c.in-Some.ensures.stands d in
    let f = found_open ss c.in-Some.place d c.args.number c.self.invariant inside found stands c.index_mut.ensures.value in
    f.stays_climbs c.serve_piece.new.session
    (moved_number c.args.at c.args.number c.args.piece.now d.session c.serve_piece.new.session (ap (λ (j : Connection). j.number) f.value ∙ f.number) (c.in-Ok-true.ensures.ok ∙ cond-true _ _ _ c.in-Ok-true.field-0-test))

pub invariant_of-self-in-Ok-false : goal.invariant_of-self-in-Ok-false
invariant_of-self-in-Ok-false g c =
    let ss : List Slot = c.self.inside.slots.items in
    let d : Slot = c.index_mut.result.now in
    let inside = rw c.as_slice.ensures.value at c.in-Some.ensures.inside in
    let found = rw c.as_slice.ensures.value at c.in-Some.ensures.found d in
    let stands = rw c.as_slice.ensures.value at c.in-Some.ensures.stands d in
    let f = found_open ss c.in-Some.place d c.args.number c.self.invariant inside found stands c.index_mut.ensures.value in
    f.goes_climbs (vacated c.args.number _) (record { session = c.serve_piece.new.session; gone = d.gone }) c.vacate.new.slots.items refl (c.vacate.ensures d)

pub invariant_of-self-in-Err : goal.invariant_of-self-in-Err
invariant_of-self-in-Err g c =
    let ss : List Slot = c.self.inside.slots.items in
    let d : Slot = c.index_mut.result.now in
    let inside = rw c.as_slice.ensures.value at c.in-Some.ensures.inside in
    let found = rw c.as_slice.ensures.value at c.in-Some.ensures.found d in
    let stands = rw c.as_slice.ensures.value at c.in-Some.ensures.stands d in
    let f = found_open ss c.in-Some.place d c.args.number c.self.invariant inside found stands c.index_mut.ensures.value in
    f.goes_climbs (vacated c.args.number _) (record { session = c.serve_piece.new.session; gone = d.gone }) c.vacate-in-Err.new.slots.items refl (c.vacate-in-Err.ensures d)

pub returns-in-Ok-true-clause-ok : goal.returns-in-Ok-true-clause-ok
returns-in-Ok-true-clause-ok g c =
    let ss : List Slot = c.self.inside.slots.items in
    let d : Slot = c.index_mut.result.now in
    let inside = rw c.as_slice.ensures.value at c.in-Some.ensures.inside in
    let found = rw c.as_slice.ensures.value at c.in-Some.ensures.found d in
    let stands = rw c.as_slice.ensures.value at c.in-Some.ensures.stands d in
    let f = found_open ss c.in-Some.place d c.args.number c.self.invariant inside found stands c.index_mut.ensures.value in
    let ks : List Connection = open_in ss in
    let k : Connection = d.session in
    subst (λ (l : List Connection). open_in (set ss c.in-Some.place (record { session = c.serve_piece.new.session; gone = d.gone })) ≡ filter_map (step (Bytes c.args.at c.args.number c.args.piece.now)) l) c.self.view_is
    (f.stays c.serve_piece.new.session
    ∙ piece_stays c.args.at c.args.number c.args.piece.now ks f.at k c.serve_piece.new.session (open_climbs ss c.self.invariant) f.inside f.value f.number (c.in-Ok-true.ensures.ok ∙ cond-true _ _ _ c.in-Ok-true.field-0-test))

pub returns-in-Ok-true-clause-ran : goal.returns-in-Ok-true-clause-ran
returns-in-Ok-true-clause-ran g c =
    let serves = g.H.RequestHandler.serves c.args.access.now in
    let ss : List Slot = c.self.inside.slots.items in
    let d : Slot = c.index_mut.result.now in
    let inside = rw c.as_slice.ensures.value at c.in-Some.ensures.inside in
    let found = rw c.as_slice.ensures.value at c.in-Some.ensures.found d in
    let stands = rw c.as_slice.ensures.value at c.in-Some.ensures.stands d in
    let f = found_open ss c.in-Some.place d c.args.number c.self.invariant inside found stands c.index_mut.ensures.value in
    let ks : List Connection = open_in ss in
    let k : Connection = d.session in
    let number : k.number ≡ c.args.number = ap (λ (j : Connection). j.number) f.value ∙ f.number in
    subst (λ (l : List Connection). RepliesTo serves c.args.handler.now (completed_now (Bytes c.args.at c.args.number c.args.piece.now) l) c.serve_piece.new.handler c.args.number c.args.replies.now.items c.serve_piece.new.replies.items) c.self.view_is
    (replies_same serves c.args.number c.args.handler.now c.serve_piece.new.handler _ (completed_now (Bytes c.args.at c.args.number c.args.piece.now) ks) _ _
    (piece_asks c.args.at c.args.number c.args.piece.now ks f.at k (open_climbs ss c.self.invariant) f.inside f.value f.number)
    (subst (λ (n : ℕ). RepliesTo serves c.args.handler.now (heard_messages c.args.at k (piece_at c.args.at c.args.piece.now)) c.serve_piece.new.handler n c.args.replies.now.items c.serve_piece.new.replies.items) number c.in-Ok-true.ensures.ran))

pub returns-in-Ok-true-clause-shuts : goal.returns-in-Ok-true-clause-shuts
returns-in-Ok-true-clause-shuts g c =
    let ss : List Slot = c.self.inside.slots.items in
    let d : Slot = c.index_mut.result.now in
    let inside = rw c.as_slice.ensures.value at c.in-Some.ensures.inside in
    let found = rw c.as_slice.ensures.value at c.in-Some.ensures.found d in
    let stands = rw c.as_slice.ensures.value at c.in-Some.ensures.stands d in
    let f = found_open ss c.in-Some.place d c.args.number c.self.invariant inside found stands c.index_mut.ensures.value in
    let ks : List Connection = open_in ss in
    let k : Connection = d.session in
    subst (λ (l : List Connection). done_by (Bytes c.args.at c.args.number c.args.piece.now) l ≡ []) c.self.view_is
    (stays_done c.args.at c.args.number c.args.piece.now ks f.at k c.serve_piece.new.session (open_climbs ss c.self.invariant) f.inside f.value f.number (c.in-Ok-true.ensures.ok ∙ cond-true _ _ _ c.in-Ok-true.field-0-test))

pub returns-in-Ok-false-clause-ok : goal.returns-in-Ok-false-clause-ok
returns-in-Ok-false-clause-ok g c =
    let ss : List Slot = c.self.inside.slots.items in
    let d : Slot = c.index_mut.result.now in
    let inside = rw c.as_slice.ensures.value at c.in-Some.ensures.inside in
    let found = rw c.as_slice.ensures.value at c.in-Some.ensures.found d in
    let stands = rw c.as_slice.ensures.value at c.in-Some.ensures.stands d in
    let f = found_open ss c.in-Some.place d c.args.number c.self.invariant inside found stands c.index_mut.ensures.value in
    let ks : List Connection = open_in ss in
    let k : Connection = d.session in
    subst (λ (l : List Connection). open_in c.vacate.new.slots.items ≡ filter_map (step (Bytes c.args.at c.args.number c.args.piece.now)) l) c.self.view_is
    ((f.goes (vacated c.args.number _) (record { session = c.serve_piece.new.session; gone = d.gone }) c.vacate.new.slots.items refl (c.vacate.ensures d))
    ∙ piece_goes c.args.at c.args.number c.args.piece.now ks f.at k (open_climbs ss c.self.invariant) f.inside f.value f.number (c.in-Ok-false.ensures.ok ∙ cond-false _ _ _ c.in-Ok-false.field-0-test))

pub returns-in-Ok-false-clause-ran : goal.returns-in-Ok-false-clause-ran
returns-in-Ok-false-clause-ran g c =
    let serves = g.H.RequestHandler.serves c.args.access.now in
    let ss : List Slot = c.self.inside.slots.items in
    let d : Slot = c.index_mut.result.now in
    let inside = rw c.as_slice.ensures.value at c.in-Some.ensures.inside in
    let found = rw c.as_slice.ensures.value at c.in-Some.ensures.found d in
    let stands = rw c.as_slice.ensures.value at c.in-Some.ensures.stands d in
    let f = found_open ss c.in-Some.place d c.args.number c.self.invariant inside found stands c.index_mut.ensures.value in
    let ks : List Connection = open_in ss in
    let k : Connection = d.session in
    let number : k.number ≡ c.args.number = ap (λ (j : Connection). j.number) f.value ∙ f.number in
    subst (λ (l : List Connection). RepliesTo serves c.args.handler.now (completed_now (Bytes c.args.at c.args.number c.args.piece.now) l) c.serve_piece.new.handler c.args.number c.args.replies.now.items c.serve_piece.new.replies.items) c.self.view_is
    (replies_same serves c.args.number c.args.handler.now c.serve_piece.new.handler _ (completed_now (Bytes c.args.at c.args.number c.args.piece.now) ks) _ _
    (piece_asks c.args.at c.args.number c.args.piece.now ks f.at k (open_climbs ss c.self.invariant) f.inside f.value f.number)
    (subst (λ (n : ℕ). RepliesTo serves c.args.handler.now (heard_messages c.args.at k (piece_at c.args.at c.args.piece.now)) c.serve_piece.new.handler n c.args.replies.now.items c.serve_piece.new.replies.items) number c.in-Ok-false.ensures.ran))

pub returns-in-Ok-false-clause-done : goal.returns-in-Ok-false-clause-done
returns-in-Ok-false-clause-done g c =
    let ss : List Slot = c.self.inside.slots.items in
    let d : Slot = c.index_mut.result.now in
    let inside = rw c.as_slice.ensures.value at c.in-Some.ensures.inside in
    let found = rw c.as_slice.ensures.value at c.in-Some.ensures.found d in
    let stands = rw c.as_slice.ensures.value at c.in-Some.ensures.stands d in
    let f = found_open ss c.in-Some.place d c.args.number c.self.invariant inside found stands c.index_mut.ensures.value in
    let ks : List Connection = open_in ss in
    let k : Connection = d.session in
    λ h. subst (λ (l : List Connection). IsShut (numbers_of l) (open_in c.vacate.new.slots.items) c.args.number) c.self.view_is
    (subst (λ (l : List Connection). IsShut (numbers_of ks) l c.args.number) (sym (f.goes (vacated c.args.number _) (record { session = c.serve_piece.new.session; gone = d.gone }) c.vacate.new.slots.items refl (c.vacate.ensures d)))
    (removed_shut ks f.at c.args.number k (open_climbs ss c.self.invariant) f.inside f.number))

pub returns-in-Ok-false-clause-shuts : goal.returns-in-Ok-false-clause-shuts
returns-in-Ok-false-clause-shuts g c =
    let ss : List Slot = c.self.inside.slots.items in
    let d : Slot = c.index_mut.result.now in
    let inside = rw c.as_slice.ensures.value at c.in-Some.ensures.inside in
    let found = rw c.as_slice.ensures.value at c.in-Some.ensures.found d in
    let stands = rw c.as_slice.ensures.value at c.in-Some.ensures.stands d in
    let f = found_open ss c.in-Some.place d c.args.number c.self.invariant inside found stands c.index_mut.ensures.value in
    let ks : List Connection = open_in ss in
    let k : Connection = d.session in
    subst (λ (l : List Connection). done_by (Bytes c.args.at c.args.number c.args.piece.now) l ≡ c.args.number ∷ []) c.self.view_is
    (goes_done c.args.at c.args.number c.args.piece.now ks f.at k (open_climbs ss c.self.invariant) f.inside f.value f.number (c.in-Ok-false.ensures.ok ∙ cond-false _ _ _ c.in-Ok-false.field-0-test))

pub returns-in-Err-clause-err : goal.returns-in-Err-clause-err
returns-in-Err-clause-err g c =
    let ss : List Slot = c.self.inside.slots.items in
    let d : Slot = c.index_mut.result.now in
    let inside = rw c.as_slice.ensures.value at c.in-Some.ensures.inside in
    let found = rw c.as_slice.ensures.value at c.in-Some.ensures.found d in
    let stands = rw c.as_slice.ensures.value at c.in-Some.ensures.stands d in
    let f = found_open ss c.in-Some.place d c.args.number c.self.invariant inside found stands c.index_mut.ensures.value in
    let ks : List Connection = open_in ss in
    let k : Connection = d.session in
    subst (λ (l : List Connection). open_in c.vacate-in-Err.new.slots.items ≡ filter_map (step (Ended c.args.at c.args.number)) l) c.self.view_is
    ((f.goes (vacated c.args.number _) (record { session = c.serve_piece.new.session; gone = d.gone }) c.vacate-in-Err.new.slots.items refl (c.vacate-in-Err.ensures d))
    ∙ ended_goes c.args.at c.args.number ks f.at k (open_climbs ss c.self.invariant) f.inside f.number)

pub returns-in-Err-clause-halted : goal.returns-in-Err-clause-halted
returns-in-Err-clause-halted g c =
    let ss : List Slot = c.self.inside.slots.items in
    let d : Slot = c.index_mut.result.now in
    let inside = rw c.as_slice.ensures.value at c.in-Some.ensures.inside in
    let found = rw c.as_slice.ensures.value at c.in-Some.ensures.found d in
    let stands = rw c.as_slice.ensures.value at c.in-Some.ensures.stands d in
    let f = found_open ss c.in-Some.place d c.args.number c.self.invariant inside found stands c.index_mut.ensures.value in
    let ks : List Connection = open_in ss in
    let k : Connection = d.session in
    subst (λ (l : List Connection). Falters (g.H.RequestHandler.serves c.args.access.now) g.H.RequestHandler.skips c.args.handler.now (completed_now (Bytes c.args.at c.args.number c.args.piece.now) l) c.serve_piece.new.handler) c.self.view_is
    (falters_same (g.H.RequestHandler.serves c.args.access.now) g.H.RequestHandler.skips c.args.handler.now c.serve_piece.new.handler _ (completed_now (Bytes c.args.at c.args.number c.args.piece.now) ks)
    (piece_asks c.args.at c.args.number c.args.piece.now ks f.at k (open_climbs ss c.self.invariant) f.inside f.value f.number) c.in-Err.ensures.halted)
