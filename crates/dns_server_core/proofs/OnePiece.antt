-- What one piece makes of a connection.
use Rattle.std.proofs.Common.{◌≡◌, ℕ, List, [], ◌∷◌, ◌++◌, map, refl, sym, ap, ◌∙◌, cond, not, Bool, true, false, Some, None, Result, Ok, Err}
use Rattle.std.specs.Result.{OnErr, OnOk}
use Rattle.std.proofs.lemmas.Bool.{cond-true, cond-false}
use Rattle.dns_edges.specs.Listening.{Arrival}
use Rattle.dns_server_core.specs.declared.session.Heard.TheVariants.{InTime, Late}
use Rattle.dns_server_core.specs.Connections.{Connection, Piece, is_within, message_of}
use Rattle.dns_server_core.specs.Steps.{HearsPiece, base_by, fed_by, heard, heard_messages, is_over, messages_in, moved, piece_at, unless_over, unread_messages, with_piece}

pub on_err : {T E : Type 0} (r : Result T E) {P : Type 0} → P → OnErr r P
on_err (Ok x) p = tt
on_err (Err e) p = p

pub on_ok : {T E : Type 0} (r : Result T E) {P : Type 0} → P → OnOk r P
on_ok (Ok x) p = p
on_ok (Err e) p = tt

pub ok_lists : {A T E : Type 0} (r : Result T E) (xs ys zs : List A) → OnOk r (xs ≡ ys) → ys ≡ zs → OnOk r (xs ≡ zs)
ok_lists (Ok x) xs ys zs p q = p ∙ q
ok_lists (Err e) xs ys zs p q = tt

pub base_again : (at : ℕ) (ms : List (List ℕ)) → base_by at at ms ≡ at
base_again at [] = refl
base_again at (m ∷ ms) = refl

pub heard-within : (k : Connection) (a : Arrival) → is_within k.limit k.base a.at ≡ true → heard k (Piece a) ≡ messages_in k (k.rest ++ a.piece)
heard-within k a w = cond-true (is_within k.limit k.base a.at) _ _ w

-- a connection stays unless it is over
unless : (k : Connection) (b : Bool) → is_over k ≡ b → unless_over k ≡ cond (not b) (Some k) None
unless k true e = cond-true (is_over k) _ _ e
unless k false e = cond-false (is_over k) _ _ e

pub moved-within : (k : Connection) (a : Arrival) (new : Connection) (stays : Bool) → is_within k.limit k.base a.at ≡ true → new ≡ fed_by (with_piece k a.piece) a.at (k.rest ++ a.piece)
    → stays ≡ not (is_over new) → moved k (Piece a) ≡ cond stays (Some new) None
moved-within k a new stays w e s =
    cond-true (is_within k.limit k.base a.at) _ _ w
    ∙ ap unless_over (sym e)
    ∙ unless new (is_over new) refl
    ∙ ap (λ (b : Bool). cond b (Some new) None) (sym s)

-- what a connection that heard a piece has to have settled, and how it stands once that was done
pub heard_in_time : (k new : Connection) (at : ℕ) (piece : List ℕ) → HearsPiece k at piece InTime new → heard_messages at k (piece_at at piece) ≡ unread_messages at new
heard_in_time k new at piece h =
    ap (map (message_of at k)) (heard-within k (record { at = at; piece = piece }) h.0) ∙ ap (unread_messages at) (sym h.1)

pub moved_in_time : (k between new : Connection) (at : ℕ) (piece : List ℕ) (stays : Bool) → HearsPiece k at piece InTime between → new ≡ fed_by between at between.rest → stays ≡ not (is_over new)
    → moved k (piece_at at piece) ≡ cond stays (Some new) None
moved_in_time k between new at piece stays h is s =
    moved-within k (record { at = at; piece = piece }) new stays h.0 (is ∙ ap (λ (c : Connection). fed_by c at c.rest) h.1) s

pub heard_late : (k new : Connection) (at : ℕ) (piece : List ℕ) (since : ℕ) → HearsPiece k at piece (Late since) new → heard_messages at k (piece_at at piece) ≡ []
heard_late k new at piece since h = ap (map (message_of at k)) (cond-false (is_within k.limit k.base at) _ _ h.0)

pub moved_late : (k new : Connection) (at : ℕ) (piece : List ℕ) (since : ℕ) → HearsPiece k at piece (Late since) new → moved k (piece_at at piece) ≡ None
moved_late k new at piece since h = cond-false (is_within k.limit k.base at) _ _ h.0
