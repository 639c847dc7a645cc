-- Runs that follow one another.
use Rattle.std.proofs.Common.{◌≡◌, ◌∙◌, ℕ, true, Option, Some, None, List, [], ◌∷◌, ◌++◌, Result, Ok, Err, map, refl, sym, ap, subst, ⊎_elim, inl, inr, arith}
use Rattle.std.proofs.lemmas.List.{append_assoc, append-nil, map-append}
use Rattle.std.specs.Result.{OnErr}
use Rattle.dns_book.specs.declared.ask.Ask.{Ask}
use Rattle.dns_book.specs.declared.ask.Settled.{Settled}
use Rattle.dns_book.specs.declared.ask.SettledInto.{SettledInto}
use Rattle.dns_book.specs.Into.{sent_for, SettlesInto}
use Rattle.dns_server_core.specs.FrameRuns.{frame_for, Run, Adds, Halts, AddsFront}

-- a reply goes into a buffer as it goes over a connection
sent_framed : (reply : Option (List ℕ)) → sent_for true reply ≡ frame_for reply
sent_framed None = refl
sent_framed (Some bytes) = refl

module _ {H : Type 0} (serves : H → Ask → Settled → H → Type 0) where
  -- a run, and then another
  pub Run-append : (a b c : H) (xs ys : List Ask) (os ps : List ℕ) → Run serves a xs os b → Run serves b ys ps c → Run serves a (xs ++ ys) (os ++ ps) c
  Run-append a b c [] ys os ps r s = rw r.1 (subst (λ (h : H). Run serves h ys ps c) r.0 s)
  Run-append a b c (x ∷ xs) ys os ps r s = (
    r.0,
    r.1,
    r.2 ++ ps,
    r.3,
    ap (λ (ts : List ℕ). ts ++ ps) r.4 ∙ append_assoc (frame_for r.0.reply) r.2 ps,
    Run-append r.1 b c xs ys r.2 ps r.5 s,
  )

  -- one message was settled
  pub Run-one : (a b : H) (ask : Ask) (settled : Settled) → serves a ask settled b → Run serves a (ask ∷ []) (frame_for settled.reply) b
  Run-one a b ask settled s = (settled, b, [], s, sym (append-nil (frame_for settled.reply)), (refl, refl))

  pub Adds-none : (a : H) (old : List ℕ) → Adds serves a [] a old old
  Adds-none a old = record { bytes = []; run = (refl, refl); added = sym (append-nil old) }

  -- one message was settled, whose reply went into a buffer behind its length
  pub Adds-one : (a b : H) (ask : Ask) (old new : List ℕ) (into : SettledInto) → SettlesInto (λ settled. serves a ask settled b) true old new into → Adds serves a (ask ∷ []) b old new
  Adds-one a b ask old new into i = record {
    bytes = frame_for i.settled.reply;
    run = Run-one a b ask i.settled i.is;
    added = i.sent ∙ ap (λ (frame : List ℕ). old ++ frame) (sent_framed i.settled.reply);
  }

  pub Adds-append : (a b c : H) (xs ys : List Ask) (old mid new : List ℕ) → Adds serves a xs b old mid → Adds serves b ys c mid new → Adds serves a (xs ++ ys) c old new
  Adds-append a b c xs ys old mid new p q = record {
    bytes = p.bytes ++ q.bytes;
    run = Run-append a b c xs ys p.bytes q.bytes p.run q.run;
    added = q.added ∙ ap (λ (ts : List ℕ). ts ++ q.bytes) p.added ∙ append_assoc old p.bytes q.bytes;
  }

  pub AddsFront-none : (a : H) (all : List Ask) (old : List ℕ) → AddsFront serves a all a all old old
  AddsFront-none a all old = record { first = []; parts = refl; adds = Adds-none a old }

  pub AddsFront-more : (a b c : H) (all rest : List Ask) (x : Ask) (old mid new : List ℕ) → AddsFront serves a all b (x ∷ rest) old mid → Adds serves b (x ∷ []) c mid new → AddsFront serves a all c rest old new
  AddsFront-more a b c all rest x old mid new g s = record {
    first = g.first ++ x ∷ [];
    parts = g.parts ∙ sym (append_assoc g.first (x ∷ []) rest);
    adds = Adds-append a b c g.first (x ∷ []) old mid new g.adds s;
  }

  -- some, and then more of those that were left
  pub AddsFront-append : (a b c : H) (all more left : List Ask) (old mid new : List ℕ) → AddsFront serves a all b more old mid → AddsFront serves b more c left mid new → AddsFront serves a all c left old new
  AddsFront-append a b c all more left old mid new g h = record {
    first = g.first ++ h.first;
    parts = g.parts ∙ ap (λ (l : List Ask). g.first ++ l) h.parts ∙ sym (append_assoc g.first h.first left);
    adds = Adds-append a b c g.first h.first old mid new g.adds h.adds;
  }

  pub AddsFront-end : (a b : H) (all : List Ask) (old new : List ℕ) → AddsFront serves a all b [] old new → Adds serves a all b old new
  AddsFront-end a b all old new g = subst (λ (l : List Ask). Adds serves a l b old new) (sym (g.parts ∙ append-nil g.first)) g.adds

  module _ (skips : H → H → Type 0) where
    pub Halts-none : (a : H) (all : List Ask) (old : List ℕ) → Halts serves skips a all a old old
    Halts-none a all old = record { first = []; others = all; parts = refl; last = a; bytes = []; run = (refl, refl); added = sym (append-nil old); end = inl refl }

    -- a call that found no memory left the buffer as it was
    pub Halts-skips : (a b : H) (all : List Ask) (old new : List ℕ) → skips a b → new ≡ old → Halts serves skips a all b old new
    Halts-skips a b all old new s same = record { first = []; others = all; parts = refl; last = a; bytes = []; run = (refl, refl); added = same ∙ sym (append-nil old); end = inr s }

    -- behind those that were settled
    pub AddsFront-halts : (a b c : H) (all part more : List Ask) (old mid new : List ℕ) → AddsFront serves a all b (part ++ more) old mid → Halts serves skips b part c mid new → Halts serves skips a all c old new
    AddsFront-halts a b c all part more old mid new g h = record {
      first = g.first ++ h.first;
      others = h.others ++ more;
      parts = g.parts ∙ ap (λ (l : List Ask). g.first ++ l) (ap (λ (l : List Ask). l ++ more) h.parts ∙ append_assoc h.first h.others more) ∙ sym (append_assoc g.first h.first (h.others ++ more));
      last = h.last;
      bytes = g.adds.bytes ++ h.bytes;
      run = Run-append a b h.last g.first h.first g.adds.bytes h.bytes g.adds.run h.run;
      added = h.added ∙ ap (λ (ts : List ℕ). ts ++ h.bytes) g.adds.added ∙ append_assoc old g.adds.bytes h.bytes;
      end = h.end;
    }

-- the same run, over asks and states that stand for those of another
pub Run-map : {H J : Type 0} (serves : H → Ask → Settled → H → Type 0) (others : J → Ask → Settled → J → Type 0) (f : H → J) (one other : List ℕ → Ask)
    → ((a b : H) (m : List ℕ) (settled : Settled) → serves a (one m) settled b → others (f a) (other m) settled (f b))
    → (ms : List (List ℕ)) (a b : H) (bytes : List ℕ) → Run serves a (map one ms) bytes b → Run others (f a) (map other ms) bytes (f b)
Run-map serves others f one other step [] a b bytes r = (ap f r.0, r.1)
Run-map serves others f one other step (m ∷ ms) a b bytes r = (r.0, f r.1, r.2, step a r.1 m r.0 r.3, r.4, Run-map serves others f one other step ms r.1 b r.2 r.5)

pub Adds-map : {H J : Type 0} (serves : H → Ask → Settled → H → Type 0) (others : J → Ask → Settled → J → Type 0) (f : H → J) (one other : List ℕ → Ask)
    → ((a b : H) (m : List ℕ) (settled : Settled) → serves a (one m) settled b → others (f a) (other m) settled (f b))
    → (ms : List (List ℕ)) (a b : H) (old new : List ℕ) → Adds serves a (map one ms) b old new → Adds others (f a) (map other ms) (f b) old new
Adds-map serves others f one other step ms a b old new r = record { bytes = r.bytes; run = Run-map serves others f one other step ms a b r.bytes r.run; added = r.added }

first_or : Ask → List Ask → Ask
first_or d [] = d
first_or d (x ∷ xs) = x

but_first : List Ask → List Ask
but_first [] = []
but_first (x ∷ xs) = xs

-- what stands for two parts of a list is two parts
map_parts : (one : List ℕ → Ask) (ms : List (List ℕ)) (xs ys : List Ask) → map one ms ≡ xs ++ ys → (ns : List (List ℕ)) × (ps : List (List ℕ)) × (ms ≡ ns ++ ps) × (map one ns ≡ xs) × (map one ps ≡ ys)
unfolding first_or but_first
map_parts one ms [] ys e = ([], ms, refl, refl, e)
map_parts one [] (x ∷ xs) ys e = absurd (grind (arith, e))
map_parts one (m ∷ ms) (x ∷ xs) ys e =
    let rest = map_parts one ms xs ys (ap but_first e) in
    (m ∷ rest.0, rest.1, ap (λ (l : List (List ℕ)). m ∷ l) rest.2, ap (λ (y : Ask). y ∷ map one rest.0) (ap (first_or x) e) ∙ ap (λ (l : List Ask). x ∷ l) rest.3, rest.4)

pub Halts-map : {H J : Type 0} (serves : H → Ask → Settled → H → Type 0) (skips : H → H → Type 0) (others : J → Ask → Settled → J → Type 0) (other_skips : J → J → Type 0) (f : H → J) (one other : List ℕ → Ask)
    → ((a b : H) (m : List ℕ) (settled : Settled) → serves a (one m) settled b → others (f a) (other m) settled (f b)) → ((a b : H) → skips a b → other_skips (f a) (f b))
    → (ms : List (List ℕ)) (a b : H) (old new : List ℕ) → Halts serves skips a (map one ms) b old new → Halts others other_skips (f a) (map other ms) (f b) old new
Halts-map serves skips others other_skips f one other step skip ms a b old new h =
    let parts = map_parts one ms h.first h.others h.parts in
    record {
      first = map other parts.0;
      others = map other parts.1;
      parts = ap (map other) parts.2 ∙ map-append other parts.0 parts.1;
      last = f h.last;
      bytes = h.bytes;
      run = Run-map serves others f one other step parts.0 a h.last h.bytes (subst (λ (l : List Ask). Run serves a l h.bytes h.last) (sym parts.3) h.run);
      added = h.added;
      end = ⊎_elim (λ e. inl (ap f e)) (λ s. inr (skip h.last b s)) h.end;
    }

pub on_err : {T E : Type 0} (r : Result T E) {P : Type 0} → P → OnErr r P
on_err (Ok x) p = tt
on_err (Err e) p = p
