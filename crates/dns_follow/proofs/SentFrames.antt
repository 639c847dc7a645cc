-- Frames that are sent one after another, up to the first one whose row is too long.
use Rattle.std.proofs.Common.{◌≡◌, inl, inr, ℕ, ◌+◌, ◌<◌, List, [], ◌∷◌, ◌++◌, length, take, drop, get_or, Some, None, Result, Ok, Err, true, false, refl, sym, ap, ◌∙◌, subst, append_assoc, append-nil}
use Rattle.std.specs.Prelude.{OnOk, OnErr}
use Rattle.std.proofs.lemmas.List.{take_more, take-append-drop, drop_more}
use Rattle.std.proofs.lemmas.Bool.{cases_Bool}
use Rattle.dns_io.specs.declared.io_fault.IoFault.{IoFault}
use Rattle.dns_io.specs.Told.{Grows, GrowsByPrefix}
use Rattle.dns_edges.specs.Edges.{HasCause, SinkTold}
use Rattle.dns_words.specs.Writing.{Writes}
use Rattle.dns_words.proofs.TextsWritten.{sink_of, Writes-then, Writes-stop}
use Rattle.dns_follow.specs.declared.frame.Frame.{Frame}
use Rattle.dns_follow.specs.Feed.{framed}
use Rattle.dns_follow.specs.Feeding.{is_short, sent_of, too_long}

-- bytes that came to an empty buffer and were handed over whole
pub all_written : (a c : SinkTold) (bytes buffer empty text : List ℕ) (r : Result (Unit {0}) IoFault) → bytes ≡ buffer → buffer ≡ empty ++ text → empty ≡ []
    → OnOk r (Grows a.taken c.taken bytes) → OnErr r ((rest : List ℕ) × GrowsByPrefix a.taken c.taken bytes rest) → HasCause a.faults c.faults r → Writes (sink_of a c) text r
all_written a c bytes buffer empty text r is added none ok err cause =
    let whole : bytes ≡ text = is ∙ added ∙ ap (λ (l : List ℕ). l ++ text) none in
    subst (λ (t : List ℕ). Writes (sink_of a c) t r) whole (record { ok = ok; err = err; cause = cause })

-- behind frames that are all short
long_behind : (front back : List Frame) → too_long front ≡ None → too_long (front ++ back) ≡ too_long back
long_behind [] back none = refl
long_behind (f ∷ front) back none = elim (cases_Bool (is_short f)) [
  | inl short ↦ let more = rw short at none in rw short (long_behind front back more)
  | inr other ↦ absurd (let long = rw other at none in cc)
]

sent_behind : (front back : List Frame) → too_long front ≡ None → sent_of (front ++ back) ≡ sent_of front ++ sent_of back
sent_behind [] back none = refl
sent_behind (f ∷ front) back none = elim (cases_Bool (is_short f)) [
  | inl short ↦
      let more = rw short at none in
      rw short (ap (λ (l : List ℕ). framed f ++ l) (sent_behind front back more) ∙ sym (append_assoc (framed f) (sent_of front) (sent_of back)))
  | inr other ↦ absurd (let long = rw other at none in cc)
]

one_sent : (f : Frame) (more : List Frame) → is_short f ≡ true → sent_of (f ∷ more) ≡ framed f ++ sent_of more
one_sent f more short = rw short refl

module _ (frames : List Frame) (i : ℕ) (f : Frame) (within : i < length frames) (is : f ≡ get_or frames i f) (none : too_long (take i frames) ≡ None) where
  parted : frames ≡ take i frames ++ f ∷ drop (i + 1) frames
  parted = sym (take-append-drop i frames) ∙ ap (λ (l : List Frame). take i frames ++ l) (drop_more frames i f within ∙ ap (λ (x : Frame). x ∷ drop (i + 1) frames) (sym is))

  front_is : take (i + 1) frames ≡ take i frames ++ f ∷ []
  front_is = take_more frames i f within ∙ ap (λ (x : Frame). take i frames ++ x ∷ []) (sym is)

  pub long_here : is_short f ≡ false → too_long frames ≡ Some f.id
  long_here long = ap too_long parted ∙ long_behind (take i frames) (f ∷ drop (i + 1) frames) none ∙ rw long refl

  pub short_more : is_short f ≡ true → too_long (take (i + 1) frames) ≡ None
  short_more short = ap too_long front_is ∙ long_behind (take i frames) (f ∷ []) none ∙ rw short refl

  pub sent_until : is_short f ≡ false → sent_of (take i frames) ≡ sent_of frames
  sent_until long =
      let stops : sent_of (f ∷ drop (i + 1) frames) ≡ [] = rw long refl in
      sym (ap sent_of parted ∙ sent_behind (take i frames) (f ∷ drop (i + 1) frames) none ∙ ap (λ (l : List ℕ). sent_of (take i frames) ++ l) stops ∙ append-nil (sent_of (take i frames)))

  pub sent_more : is_short f ≡ true → sent_of (take (i + 1) frames) ≡ sent_of (take i frames) ++ framed f
  sent_more short =
      ap sent_of front_is ∙ sent_behind (take i frames) (f ∷ []) none ∙ ap (λ (l : List ℕ). sent_of (take i frames) ++ l) (one_sent f [] short ∙ append-nil (framed f))

  pub sent_round : is_short f ≡ true → sent_of frames ≡ (sent_of (take i frames) ++ framed f) ++ sent_of (drop (i + 1) frames)
  sent_round short =
      ap sent_of parted ∙ sent_behind (take i frames) (f ∷ drop (i + 1) frames) none
      ∙ ap (λ (l : List ℕ). sent_of (take i frames) ++ l) (one_sent f (drop (i + 1) frames) short)
      ∙ sym (append_assoc (sent_of (take i frames)) (framed f) (sent_of (drop (i + 1) frames)))

  -- one more was sent, or not
  module _ (a b c : SinkTold) (short : is_short f ≡ true) (sent : Writes (sink_of a b) (sent_of (take i frames)) (Ok tt)) where
    pub sent_on : Writes (sink_of b c) (framed f) (Ok tt) → Writes (sink_of a c) (sent_of (take (i + 1) frames)) (Ok tt)
    sent_on one = subst (λ (t : List ℕ). Writes (sink_of a c) t (Ok tt)) (sym (sent_more short)) (Writes-then a b c (sent_of (take i frames)) (framed f) (Ok tt) sent one)

    pub sent_not : (why : IoFault) → Writes (sink_of b c) (framed f) (Err why) → Writes (sink_of a c) (sent_of frames) (Err why)
    sent_not why one = subst (λ (t : List ℕ). Writes (sink_of a c) t (Err why)) (sym (sent_round short))
        (Writes-stop (sink_of a c) (sent_of (take i frames) ++ framed f) (sent_of (drop (i + 1) frames)) why (Writes-then a b c (sent_of (take i frames)) (framed f) (Err why) sent one))

  pub sent_ended : (a b : SinkTold) → is_short f ≡ false → Writes (sink_of a b) (sent_of (take i frames)) (Ok tt) → Writes (sink_of a b) (sent_of frames) (Ok tt)
  sent_ended a b long sent = subst (λ (t : List ℕ). Writes (sink_of a b) t (Ok tt)) (sent_until long) sent
