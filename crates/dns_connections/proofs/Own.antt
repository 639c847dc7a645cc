-- What a call on a connection does to what is so of it.
use Rattle.std.proofs.Common.{◌≡◌, ◌<◌, ◌≤◌, ℕ, List, [], ◌∷◌, ◌++◌, length, take, drop, Bool, true, false, ◌||◌, nat_lt, if◌then◌else◌, Option, Some, None, is_none, is_err, Result, Ok, Err, refl, sym, ap, subst, ◌∙◌, append-nil, append_assoc, true≢false, take-append-drop, take_all, arith}
use Rattle.std.proofs.lemmas.Bool.{ltb-false}
use Rattle.dns_network.specs.Calls.{Noted, closed, moved, read, shut, watched, wrote}
use Rattle.dns_network.specs.Words.{crowded_by, has_some, is_unwatched, leaves, moved_some, now_by, now_of, since_or, stopped_by, worked_by}
use Rattle.dns_network.specs.declared.call.Watch.{Watch}
use Rattle.dns_network.specs.declared.call.Why.{Why}
use Rattle.dns_network.specs.declared.refused.Refused.{Refused}
use Rattle.dns_network.proofs.Causes.{unwatched}
use Rattle.dns_network.proofs.Words.{found_one}
use Rattle.dns_connections.specs.declared.stage.Stage.{Stage}
use Rattle.dns_connections.specs.declared.stage.Stage.TheVariants.{Open, Closing, Draining}
use Rattle.dns_connections.specs.Moments.{clocks_by, no_clocks}
use Rattle.dns_connections.specs.Links.{LinkSeen, OwedSeen, closed_link, count_of, first_owed, fresh_link, given_of, is_draining, is_free, is_open, left_of, mark_of}
use Rattle.dns_connections.specs.Links.{owed_behind, owed_with, read_link, sent_link, watch_for, written_link}
use Rattle.dns_connections.specs.Kept.{Account, Acts, Follows, IsFront, IsWatched, Line, asked_now, given_more, handed_more, has_finished, is_finish}
use Rattle.dns_connections.specs.Kept.{line_of, no_account, no_line, same_account}
use Rattle.dns_connections.proofs.Steps.{closed_line, other_closed, other_read, other_shut, other_watched, other_wrote, own_closed, own_read, own_shut, own_watched, own_wrote}
use Rattle.dns_connections.proofs.Steps.{read_line, shut_line, watched_line, wrote_line}

or_true : (b : Bool) → (b || true) ≡ true
or_true true = refl
or_true false = refl

or_false : (b : Bool) → (b || false) ≡ b
or_false true = refl
or_false false = refl

pub no : {A : Type 0} → false ≡ true → A
no h = absurd (true≢false (sym h))

pub on : {A : Type 0} → true ≡ false → A
on h = absurd (true≢false h)

-- the bytes that a call moved are as many as it gave
pub taken_is : (given : Result ℕ Refused) (bytes : List ℕ) → take (count_of given) bytes ≡ moved given bytes
taken_is (Ok count) bytes = refl
taken_is (Err refused) bytes = refl

unfinished : (l : Line) → l.closings ≡ [] → has_finished l.closings ≡ true → ⊥
unfinished l e h = on (sym h ∙ ap has_finished e)

open_or_draining : (stage : Stage) → is_open stage ≡ true → is_draining stage ≡ true → ⊥
open_or_draining Open o d = no d
open_or_draining Closing o d = no d
open_or_draining (Draining since) o d = no o

-- what is given of a read is a front of what was read, and all of it while the connection is open
front_by : (b : Bool) (given : Result ℕ Refused) (room g r : List ℕ) → (b ≡ true → g ≡ r) → IsFront g r
    → IsFront (g ++ take (if b then count_of given else 0) room) (r ++ moved given room)
front_by true given room g r h f = record {
  rest = [];
  is = sym (append-nil (g ++ take (count_of given) room) ∙ ap (λ (x : List ℕ). x ++ take (count_of given) room) (h refl) ∙ ap (λ (x : List ℕ). r ++ x) (taken_is given room));
}
front_by false given room g r h f = record {
  rest = f.rest ++ moved given room;
  is = ap (λ (x : List ℕ). x ++ moved given room) f.is ∙ append_assoc g f.rest (moved given room) ∙ ap (λ (x : List ℕ). x ++ (f.rest ++ moved given room)) (sym (append-nil g));
}

open_by : (b : Bool) (given : Result ℕ Refused) (room g r : List ℕ) → (b ≡ true → g ≡ r) → b ≡ true
    → g ++ take (if b then count_of given else 0) room ≡ r ++ moved given room
open_by true given room g r h e = ap (λ (x : List ℕ). x ++ take (count_of given) room) (h refl) ∙ ap (λ (x : List ℕ). r ++ x) (taken_is given room)
open_by false given room g r h e = no e

all_by : (b : Bool) (given : Result ℕ Refused) (room g r : List ℕ) (asked : Bool) → (b ≡ true → g ≡ r) → (b ≡ false → asked ≡ true) → asked ≡ false
    → g ++ take (if b then count_of given else 0) room ≡ r ++ moved given room
all_by true given room g r asked h k e = open_by true given room g r h refl
all_by false given room g r asked h k e = on (sym (k refl) ∙ e)

pub follows_read : (l : Line) (a : Account) (one : LinkSeen) (now : ℕ) (room : List ℕ) (given : Result ℕ Refused) → Follows l a one
    → Follows (read_line now l room given) (given_more (take (given_of one.stage given) room) a) (read_link now given one)
follows_read l a one now room given k = record {
  right = record {
    front = k.right.front;
    whole = k.right.whole;
    shut = k.right.shut;
    given = front_by (is_open one.stage) given room a.given l.read k.all k.right.given;
    all_given = all_by (is_open one.stage) given room a.given l.read a.asked k.all k.asked;
  };
  paid = λ s. record {
    unclosed = (k.paid s).unclosed;
    paid = (k.paid s).paid;
    heard = ap (λ (t : ℕ). if has_some given then now else t) (k.paid s).heard;
    owing = (k.paid s).owing;
  };
  all = open_by (is_open one.stage) given room a.given l.read k.all;
  asked = k.asked;
  shut = k.shut;
  drained = k.drained;
}

-- a piece is what was taken of it, and the rest
split_by : (b : Bool) (count now : ℕ) (bytes : List ℕ) → nat_lt count (length bytes) ≡ b
    → bytes ≡ take count bytes ++ left_of (if b then Some (first_owed now (drop count bytes)) else None)
split_by true count now bytes e = sym (take-append-drop count bytes)
split_by false count now bytes e =
    let l : length bytes ≤ count = ltb-false count (length bytes) e in
    sym (append-nil (take count bytes) ∙ take_all count bytes l)

behind_by : (b : Bool) (count : ℕ) (o : OwedSeen) → nat_lt count (length o.left) ≡ b
    → o.left ≡ take count o.left ++ left_of (if b then Some (record o { left = drop count o.left }) else None)
behind_by true count o e = sym (take-append-drop count o.left)
behind_by false count o e =
    let l : length o.left ≤ count = ltb-false count (length o.left) e in
    sym (append-nil (take count o.left) ∙ take_all count o.left l)

owing_behind : (b : Bool) (now count : ℕ) (o : OwedSeen)
    → (if b then since_or now (Some o.marked) else None) ≡ mark_of (if b then Some (record o { left = drop count o.left }) else None)
owing_behind true now count o = refl
owing_behind false now count o = refl

owing_first : (b : Bool) (now count : ℕ) (bytes : List ℕ)
    → (if b then Some now else None) ≡ mark_of (if b then Some (first_owed now (drop count bytes)) else None)
owing_first true now count bytes = refl
owing_first false now count bytes = refl

-- a write leaves some where it took fewer than it was handed
leaves_is : (size : ℕ) (given : Result ℕ Refused) → leaves size given ≡ nat_lt (count_of given) size
leaves_is size (Ok count) = refl
leaves_is size (Err refused) = refl

-- what a peer took with what it is owed is what was handed
pub behind_write : (owed : Option OwedSeen) (given : Result ℕ Refused) → is_none owed ≡ false
    → left_of owed ≡ moved given (left_of owed) ++ left_of (owed_behind (count_of given) owed)
behind_write None given e = on e
behind_write (Some o) given e =
    behind_by (nat_lt (count_of given) (length o.left)) (count_of given) o refl
    ∙ ap (λ (x : List ℕ). x ++ left_of (owed_behind (count_of given) (Some o))) (taken_is given o.left)

pub owing_write : (owed : Option OwedSeen) (now : ℕ) (given : Result ℕ Refused) → is_none owed ≡ false
    → (if leaves (length (left_of owed)) given then since_or now (mark_of owed) else None) ≡ mark_of (owed_behind (count_of given) owed)
owing_write None now given e = on e
owing_write (Some o) now given e =
    ap (λ (b : Bool). if b then since_or now (Some o.marked) else None) (leaves_is (length o.left) given) ∙ owing_behind (nat_lt (count_of given) (length o.left)) now (count_of given) o

not_empty : (bytes : List ℕ) → 0 < length bytes → bytes ≡ [] → ⊥
not_empty [] l e = absurd (omega (arith, l))
not_empty (x ∷ xs) l e = let f : length (x ∷ xs) ≡ 0 = ap (λ (b : List ℕ). length b) e in absurd (omega (arith, f))

pub follows_written : (l : Line) (a : Account) (one : LinkSeen) (now : ℕ) (given : Result ℕ Refused) → one.stands ≡ true → is_free one ≡ false → 0 < length (left_of one.owed) → Follows l a one
    → Follows (wrote_line now l (left_of one.owed) given) a (written_link now given one)
follows_written l a one now given s f some k =
    let p = k.paid s in
    let left = left_of one.owed in
    let rest = left_of (owed_behind (count_of given) one.owed) in
    let paid : a.handed ≡ (l.written ++ moved given left) ++ rest =
    p.paid ∙ ap (λ (x : List ℕ). l.written ++ x) (behind_write one.owed given f) ∙ sym (append_assoc l.written (moved given left) rest) in
    record {
      right = record {
        front = record { rest = rest; is = paid };
        whole = λ h. absurd (unfinished l p.unclosed h);
        shut = k.right.shut;
        given = k.right.given;
        all_given = k.right.all_given;
      };
      paid = λ s. record {
        unclosed = p.unclosed;
        paid = paid;
        heard = ap (λ (t : ℕ). if has_some given then now else t) p.heard;
        owing = ap (λ (x : Option ℕ). if leaves (length left) given then since_or now x else None) p.owing ∙ owing_write one.owed now given f;
      };
      all = k.all;
      asked = k.asked;
      shut = k.shut;
      drained = λ d. absurd (not_empty left some (k.drained d));
    }

pub follows_sent : (l : Line) (a : Account) (one : LinkSeen) (now : ℕ) (bytes : List ℕ) (given : Result ℕ Refused) → one.stands ≡ true → one.owed ≡ None → is_open one.stage ≡ true → Follows l a one
    → Follows (wrote_line now l bytes given) (handed_more bytes a) (sent_link now bytes given one)
follows_sent l a one now bytes given s f o k =
    let p = k.paid s in
    let rest = left_of (owed_with now (count_of given) bytes None) in
    let whole : a.handed ≡ l.written = p.paid ∙ ap (λ (x : Option OwedSeen). l.written ++ left_of x) f ∙ append-nil l.written in
    let split : bytes ≡ moved given bytes ++ rest =
    split_by (nat_lt (count_of given) (length bytes)) (count_of given) now bytes refl ∙ ap (λ (x : List ℕ). x ++ rest) (taken_is given bytes) in
    let paid : a.handed ++ bytes ≡ (l.written ++ moved given bytes) ++ rest =
    ap (λ (x : List ℕ). x ++ bytes) whole ∙ ap (λ (x : List ℕ). l.written ++ x) split ∙ sym (append_assoc l.written (moved given bytes) rest) in
    let none : l.owing ≡ None = p.owing ∙ ap mark_of f in
    record {
      right = record {
        front = record { rest = rest; is = paid };
        whole = λ h. absurd (unfinished l p.unclosed h);
        shut = k.right.shut;
        given = k.right.given;
        all_given = k.right.all_given;
      };
      paid = λ s. record {
        unclosed = p.unclosed;
        paid = paid;
        heard = ap (λ (t : ℕ). if has_some given then now else t) p.heard;
        owing =
            ap (λ (x : Option ℕ). if leaves (length bytes) given then since_or now x else None) none
            ∙ ap (λ (b : Bool). if b then Some now else None) (leaves_is (length bytes) given) ∙ owing_first (nat_lt (count_of given) (length bytes)) now (count_of given) bytes;
      };
      all = k.all;
      asked = k.asked;
      shut = k.shut;
      drained = λ d. absurd (open_or_draining one.stage o d);
    }

more_left : (owed : Option OwedSeen) (bytes : List ℕ) → is_none owed ≡ false → left_of owed ++ bytes ≡ left_of (owed_with 0 0 bytes owed)
more_left None bytes e = on e
more_left (Some o) bytes e = refl

more_mark : (owed : Option OwedSeen) (bytes : List ℕ) → is_none owed ≡ false → mark_of owed ≡ mark_of (owed_with 0 0 bytes owed)
more_mark None bytes e = on e
more_mark (Some o) bytes e = refl

pub follows_more : (l : Line) (a : Account) (one : LinkSeen) (bytes : List ℕ) → one.stands ≡ true → is_free one ≡ false → is_open one.stage ≡ true → Follows l a one
    → Follows l (handed_more bytes a) (record one { owed = owed_with 0 0 bytes one.owed })
follows_more l a one bytes s f o k = record {
  right = record {
    front = record {
      rest = k.right.front.rest ++ bytes;
      is = ap (λ (x : List ℕ). x ++ bytes) k.right.front.is ∙ append_assoc l.written k.right.front.rest bytes;
    };
    whole = λ h. absurd (unfinished l (k.paid s).unclosed h);
    shut = k.right.shut;
    given = k.right.given;
    all_given = k.right.all_given;
  };
  paid = λ t. record {
    unclosed = (k.paid s).unclosed;
    paid = ap (λ (x : List ℕ). x ++ bytes) (k.paid s).paid ∙ append_assoc l.written (left_of one.owed) bytes ∙ ap (λ (x : List ℕ). l.written ++ x) (more_left one.owed bytes f);
    heard = (k.paid s).heard;
    owing = (k.paid s).owing ∙ more_mark one.owed bytes f;
  };
  all = k.all;
  asked = k.asked;
  shut = k.shut;
  drained = λ d. absurd (open_or_draining one.stage o d);
}

pub follows_watched : (l : Line) (a : Account) (one : LinkSeen) (t : Option Watch) → Follows l a one → Follows (record l { watch = t }) a one
follows_watched l a one t k = record {
  right = record { front = k.right.front; whole = k.right.whole; shut = k.right.shut; given = k.right.given; all_given = k.right.all_given };
  paid = λ s. record { unclosed = (k.paid s).unclosed; paid = (k.paid s).paid; heard = (k.paid s).heard; owing = (k.paid s).owing };
  all = k.all;
  asked = k.asked;
  shut = k.shut;
  drained = k.drained;
}

pub follows_watch : (l : Line) (a : Account) (one : LinkSeen) (what : Watch) (given : Result (Unit {0}) Refused) → Follows l a one → Follows (watched_line l what given) a one
follows_watch l a one what (Ok done) k = follows_watched l a one (Some what) k
follows_watch l a one what (Err refused) k = k

pub follows_shut : (l : Line) (a : Account) (one : LinkSeen) (now : ℕ) → one.stage ≡ Closing → one.owed ≡ None → Follows l a one
    → Follows (shut_line l) a (record one { stage = Draining now })
follows_shut l a one now e f k =
    let asked : a.asked ≡ true = k.asked (ap is_open e) in
    record {
      right = record { front = k.right.front; whole = k.right.whole; shut = λ h. asked; given = k.right.given; all_given = k.right.all_given };
      paid = λ s. record { unclosed = (k.paid s).unclosed; paid = (k.paid s).paid; heard = (k.paid s).heard; owing = (k.paid s).owing };
      all = λ h. no h;
      asked = λ h. asked;
      shut = λ h. refl;
      drained = λ h. ap left_of f;
    }

finish_of : (l : Line) (cause : Why) → l.closings ≡ [] → has_finished (l.closings ++ cause ∷ []) ≡ true → is_finish cause ≡ true
finish_of l cause e h = sym (or_false (is_finish cause)) ∙ sym (ap (λ (c : List Why). has_finished (c ++ cause ∷ [])) e) ∙ h

pub follows_closed : (l : Line) (a : Account) (one : LinkSeen) (cause : Why) → one.stands ≡ true → (is_finish cause ≡ true → is_draining one.stage ≡ true) → Follows l a one
    → Follows (closed_line l cause) a (closed_link one)
follows_closed l a one cause s d k =
    let p = k.paid s in
    record {
      right = record {
        front = k.right.front;
        whole = λ h. p.paid ∙ ap (λ (x : List ℕ). l.written ++ x) (k.drained (d (finish_of l cause p.unclosed h))) ∙ append-nil l.written;
        shut = k.right.shut;
        given = k.right.given;
        all_given = k.right.all_given;
      };
      paid = λ h. no h;
      all = k.all;
      asked = k.asked;
      shut = k.shut;
      drained = λ h. refl;
    }

pub follows_asked : (l : Line) (a : Account) (one : LinkSeen) → Follows l a one → Follows l (asked_now a) (record one { stage = Closing })
follows_asked l a one k = record {
  right = record { front = k.right.front; whole = k.right.whole; shut = λ h. refl; given = k.right.given; all_given = λ h. on h };
  paid = λ s. record { unclosed = (k.paid s).unclosed; paid = (k.paid s).paid; heard = (k.paid s).heard; owing = (k.paid s).owing };
  all = λ h. no h;
  asked = λ h. refl;
  shut = λ h. no h;
  drained = λ h. no h;
}

pub follows_told : (l : Line) (a : Account) (one : LinkSeen) (b : Bool) → Follows l a one → Follows l a (record one { untold = b })
follows_told l a one b k = record {
  right = k.right;
  paid = λ s. record { unclosed = (k.paid s).unclosed; paid = (k.paid s).paid; heard = (k.paid s).heard; owing = (k.paid s).owing };
  all = k.all;
  asked = k.asked;
  shut = k.shut;
  drained = k.drained;
}

pub follows_fresh : (n now : ℕ) → Follows (record no_line { moved = now }) no_account (fresh_link n now)
follows_fresh n now = record {
  right = record { front = record { rest = []; is = refl }; whole = λ h. refl; shut = λ h. no h; given = record { rest = []; is = refl }; all_given = λ h. refl };
  paid = λ s. record { unclosed = refl; paid = refl; heard = refl; owing = refl };
  all = λ h. refl;
  asked = λ h. on h;
  shut = λ h. no h;
  drained = λ h. no h;
}

-- calls that act on a connection, one behind the other
pub acts_none : (calls : List Noted) (one : LinkSeen) → Acts calls calls same_account one one
acts_none calls one = record {
  others = λ m h. refl;
  now = refl;
  clocks = refl;
  stopped = refl;
  crowded = λ m. refl;
  worked = λ h. h;
  number = refl;
  own = λ a k. k;
}

pub acts_then : (first middle last : List Noted) (f g : Account → Account) (one two three : LinkSeen) → Acts first middle f one two → Acts middle last g two three
    → Acts first last (λ a. g (f a)) one three
acts_then first middle last f g one two three p q = record {
  others = λ m h. q.others m (λ e. h (e ∙ p.number)) ∙ p.others m h;
  now = q.now ∙ p.now;
  clocks = q.clocks ∙ p.clocks;
  stopped = q.stopped ∙ p.stopped;
  crowded = λ m. q.crowded m ∙ p.crowded m;
  worked = λ h. q.worked (p.worked h);
  number = q.number ∙ p.number;
  own = λ a k.
      let middle_own : Follows (line_of two.number middle) (f a) two = subst (λ (n : ℕ). Follows (line_of n middle) (f a) two) (sym p.number) (p.own a k) in
      subst (λ (n : ℕ). Follows (line_of n last) (g (f a)) three) p.number (q.own (f a) middle_own);
}

-- the connection changed, and no call was made
pub acts_alone : (calls : List Noted) (f : Account → Account) (one later : LinkSeen) → later.number ≡ one.number
    → ((a : Account) → Follows (line_of one.number calls) a one → Follows (line_of one.number calls) (f a) later) → Acts calls calls f one later
acts_alone calls f one later n own = record {
  others = λ m h. refl;
  now = refl;
  clocks = refl;
  stopped = refl;
  crowded = λ m. refl;
  worked = λ h. h;
  number = n;
  own = own;
}

pub acts_read : (calls after : List Noted) (now : ℕ) (room : List ℕ) (given : Result ℕ Refused) (one later : LinkSeen)
    → after ≡ calls ++ read one.number room given ∷ [] → later ≡ read_link now given one → now ≡ now_of calls
    → Acts calls after (given_more (take (given_of one.stage given) room)) one later
acts_read calls after now room given one later t i w =
    let c = read one.number room given in
    rw (t, i, w) (record {
      others = λ m h. other_read m calls one.number h room given;
      now = found_one now_by 0 calls c;
      clocks = found_one clocks_by no_clocks calls c;
      stopped = found_one stopped_by false calls c;
      crowded = λ m. found_one (crowded_by m) false calls c;
      worked = λ h. found_one worked_by false calls c ∙ ap (λ (b : Bool). moved_some given || b) h ∙ or_true (moved_some given);
      number = refl;
      own = λ a k. subst (λ (l : Line). Follows l (given_more (take (given_of one.stage given) room) a) (read_link (now_of calls) given one)) (sym (own_read one.number calls room given))
          (follows_read (line_of one.number calls) a one (now_of calls) room given k);
    })

pub acts_written : (calls after : List Noted) (now : ℕ) (given : Result ℕ Refused) (one later : LinkSeen)
    → after ≡ calls ++ wrote one.number (left_of one.owed) given ∷ [] → later ≡ written_link now given one → now ≡ now_of calls
    → one.stands ≡ true → is_free one ≡ false → 0 < length (left_of one.owed) → Acts calls after same_account one later
acts_written calls after now given one later t i w s f some =
    let c = wrote one.number (left_of one.owed) given in
    rw (t, i, w) (record {
      others = λ m h. other_wrote m calls one.number h (left_of one.owed) given;
      now = found_one now_by 0 calls c;
      clocks = found_one clocks_by no_clocks calls c;
      stopped = found_one stopped_by false calls c;
      crowded = λ m. found_one (crowded_by m) false calls c;
      worked = λ h. found_one worked_by false calls c ∙ ap (λ (b : Bool). moved_some given || b) h ∙ or_true (moved_some given);
      number = refl;
      own = λ a k. subst (λ (l : Line). Follows l a (written_link (now_of calls) given one)) (sym (own_wrote one.number calls (left_of one.owed) given))
          (follows_written (line_of one.number calls) a one (now_of calls) given s f some k);
    })

pub acts_sent : (calls after : List Noted) (now : ℕ) (bytes : List ℕ) (given : Result ℕ Refused) (one later : LinkSeen)
    → after ≡ calls ++ wrote one.number bytes given ∷ [] → later ≡ sent_link now bytes given one → now ≡ now_of calls
    → one.stands ≡ true → one.owed ≡ None → is_open one.stage ≡ true → Acts calls after (handed_more bytes) one later
acts_sent calls after now bytes given one later t i w s f o =
    let c = wrote one.number bytes given in
    rw (t, i, w) (record {
      others = λ m h. other_wrote m calls one.number h bytes given;
      now = found_one now_by 0 calls c;
      clocks = found_one clocks_by no_clocks calls c;
      stopped = found_one stopped_by false calls c;
      crowded = λ m. found_one (crowded_by m) false calls c;
      worked = λ h. found_one worked_by false calls c ∙ ap (λ (b : Bool). moved_some given || b) h ∙ or_true (moved_some given);
      number = refl;
      own = λ a k. subst (λ (l : Line). Follows l (handed_more bytes a) (sent_link (now_of calls) bytes given one)) (sym (own_wrote one.number calls bytes given))
          (follows_sent (line_of one.number calls) a one (now_of calls) bytes given s f o k);
    })

pub acts_watched : (calls after : List Noted) (what : Watch) (given : Result (Unit {0}) Refused) (one later : LinkSeen)
    → after ≡ calls ++ watched one.number what given ∷ [] → later ≡ one → Acts calls after same_account one later
acts_watched calls after what given one later t i =
    let c = watched one.number what given in
    rw (t, i) (record {
      others = λ m h. other_watched m calls one.number h what given;
      now = found_one now_by 0 calls c;
      clocks = found_one clocks_by no_clocks calls c;
      stopped = found_one stopped_by false calls c;
      crowded = λ m. found_one (crowded_by m) false calls c;
      worked = λ h. found_one worked_by false calls c ∙ h;
      number = refl;
      own = λ a k. subst (λ (l : Line). Follows l a one) (sym (own_watched one.number calls what given)) (follows_watch (line_of one.number calls) a one what given k);
    })

pub acts_shut : (calls after : List Noted) (now : ℕ) (given : Result (Unit {0}) Refused) (one later : LinkSeen)
    → after ≡ calls ++ shut one.number given ∷ [] → later ≡ record one { stage = Draining now } → one.stage ≡ Closing → one.owed ≡ None
    → Acts calls after same_account one later
acts_shut calls after now given one later t i e f =
    let c = shut one.number given in
    rw (t, i) (record {
      others = λ m h. other_shut m calls one.number h given;
      now = found_one now_by 0 calls c;
      clocks = found_one clocks_by no_clocks calls c;
      stopped = found_one stopped_by false calls c;
      crowded = λ m. found_one (crowded_by m) false calls c;
      worked = λ h. found_one worked_by false calls c ∙ h;
      number = refl;
      own = λ a k. subst (λ (l : Line). Follows l a (record one { stage = Draining now })) (sym (own_shut one.number calls given)) (follows_shut (line_of one.number calls) a one now e f k);
    })

pub acts_closed : (calls after : List Noted) (cause : Why) (one later : LinkSeen)
    → after ≡ calls ++ closed one.number cause ∷ [] → later ≡ closed_link one → one.stands ≡ true → (is_finish cause ≡ true → is_draining one.stage ≡ true)
    → Acts calls after same_account one later
acts_closed calls after cause one later t i s d =
    let c = closed one.number cause in
    rw (t, i) (record {
      others = λ m h. other_closed m calls one.number h cause;
      now = found_one now_by 0 calls c;
      clocks = found_one clocks_by no_clocks calls c;
      stopped = found_one stopped_by false calls c;
      crowded = λ m. found_one (crowded_by m) false calls c;
      worked = λ h. found_one worked_by false calls c;
      number = refl;
      own = λ a k. subst (λ (l : Line). Follows l a (closed_link one)) (sym (own_closed one.number calls cause)) (follows_closed (line_of one.number calls) a one cause s d k);
    })

-- one that does not stand is watched for nothing
pub watched_gone : (l : Line) (one later : LinkSeen) → later ≡ closed_link one → IsWatched l later
watched_gone l one later i = λ s. on (sym s ∙ ap (λ (o : LinkSeen). o.stands) i)

-- where the system did not refuse to watch it, it is watched
pub watched_now : (calls after : List Noted) (given : Result (Unit {0}) Refused) (one later : LinkSeen)
    → after ≡ calls ++ watched one.number (watch_for one.owed) given ∷ [] → later ≡ one → is_err given ≡ false → IsWatched (line_of later.number after) later
watched_now calls after (Ok done) one later t i g = rw (t, i) (λ s. ap (λ (l : Line). l.watch) (own_watched one.number calls (watch_for one.owed) (Ok done)))
watched_now calls after (Err refused) one later t i g = on g

-- it is owed a piece more, and no call was made
pub acts_more : (calls : List Noted) (bytes : List ℕ) (one later : LinkSeen) → later ≡ record one { owed = owed_with 0 0 bytes one.owed } → one.stands ≡ true → is_free one ≡ false → is_open one.stage ≡ true
    → Acts calls calls (handed_more bytes) one later
acts_more calls bytes one later i s f o =
    rw i (acts_alone calls (handed_more bytes) one (record one { owed = owed_with 0 0 bytes one.owed }) refl (λ a k. follows_more (line_of one.number calls) a one bytes s f o k))

more_watch : (owed : Option OwedSeen) (bytes : List ℕ) → is_none owed ≡ false → watch_for owed ≡ watch_for (owed_with 0 0 bytes owed)
more_watch None bytes e = on e
more_watch (Some o) bytes e = refl

pub watched_more : (calls : List Noted) (bytes : List ℕ) (one later : LinkSeen) → later ≡ record one { owed = owed_with 0 0 bytes one.owed } → is_free one ≡ false → IsWatched (line_of one.number calls) one
    → IsWatched (line_of later.number calls) later
watched_more calls bytes one later i f w =
    rw i (λ s. w s ∙ ap (λ (x : Watch). Some x) (more_watch one.owed bytes f))

-- it is asked to close
pub acts_asked : (calls : List Noted) (one later : LinkSeen) → later ≡ record one { stage = Closing } → Acts calls calls asked_now one later
acts_asked calls one later i = rw i (acts_alone calls asked_now one (record one { stage = Closing }) refl (λ a k. follows_asked (line_of one.number calls) a one k))

pub watched_shut : (calls after : List Noted) (now : ℕ) (given : Result (Unit {0}) Refused) (one later : LinkSeen) → after ≡ calls ++ shut one.number given ∷ [] → later ≡ record one { stage = Draining now }
    → IsWatched (line_of one.number calls) one → IsWatched (line_of later.number after) later
watched_shut calls after now given one later t i w =
    rw (t, i) (λ s. ap (λ (x : Line). x.watch) (own_shut one.number calls given) ∙ w s)

-- it was asked to be watched, and the system refused
pub unwatched_behind : (calls after : List Noted) (n : ℕ) (what : Watch) (given : Result (Unit {0}) Refused) → after ≡ calls ++ watched n what given ∷ [] → is_err given ≡ true → is_unwatched n after ≡ true
unwatched_behind calls after n what (Ok done) t e = no e
unwatched_behind calls after n what (Err refused) t e = rw t (unwatched n calls what refused)
