-- One more message that is settled in turn.
use Rattle.std.proofs.Common.{◌≡◌, ℕ, ◌+◌, ◌<◌, List, [], ◌∷◌, ◌++◌, length, get_or, take, refl, sym, ap, subst, ◌∙◌, false, Option, Some, None}
use Rattle.std.proofs.lemmas.List.{take_more}
use Rattle.dns_keeper.specs.Keeping.{KeeperOf}
use Rattle.dns_book.specs.declared.ask.Ask.{Ask}
use Rattle.dns_book.specs.declared.ask.Settled.{Settled}
use Rattle.dns_book.specs.declared.ask.SettledInto.{SettledInto}
use Rattle.dns_book.specs.Into.{sent_for, SettlesInto}
use Rattle.dns_book.specs.Access.{Access}
use Rattle.dns_book.specs.Book.{SeenOf, Settles}
use Rattle.dns_bench.specs.Turns.{bytes_of, reply_length, InTurn, OverAndOver, SettlesOne}

pub turn_more : {K : Type 0} (keeper : KeeperOf K) (access : Access) (before : SeenOf K) (all : List Ask) (i bytes more sum : ℕ) (between after : SeenOf K) (ask : Ask) (one : Settled) → i < length all → ask ≡ get_or all i ask
    → InTurn keeper access before (take i all) bytes between → Settles keeper access between ask one after → more ≡ reply_length one → sum ≡ bytes + more → InTurn keeper access before (take (i + 1) all) sum after
turn_more keeper access before all i bytes more sum between after ask one inside is turn settles size total =
    let list : take i all ++ ask ∷ [] ≡ take (i + 1) all = ap (λ (x : Ask). take i all ++ x ∷ []) is ∙ sym (take_more all i ask inside) in
    let count : bytes + reply_length one ≡ sum = sym (total ∙ ap (λ n. bytes + n) size) in
    subst (λ (xs : List Ask). InTurn keeper access before xs sum after) list
    (subst (λ (n : ℕ). InTurn keeper access before (take i all ++ ask ∷ []) n after) count (InTurn.settled (take i all) bytes between turn ask one after settles))

-- a message was settled, whose reply is all that a buffer has
reply_bytes : (reply : Option (List ℕ)) → length (sent_for false reply) ≡ bytes_of reply
reply_bytes None = refl
reply_bytes (Some bytes) = refl

pub one_settled : {K : Type 0} (keeper : KeeperOf K) (access : Access) (before after : SeenOf K) (ask : Ask) (empty items : List ℕ) (into : SettledInto) (bytes : ℕ) → empty ≡ []
    → SettlesInto (λ settled. Settles keeper access before ask settled after) false empty items into → bytes ≡ length items → SettlesOne keeper access before ask bytes after
one_settled keeper access before after ask empty items into bytes none i size = record {
  settled = i.settled;
  settles = i.is;
  length = size ∙ ap length (i.sent ∙ ap (λ (b : List ℕ). b ++ sent_for false i.settled.reply) none) ∙ reply_bytes i.settled.reply;
}

-- one more turn over all of them
pub turns_more : {K : Type 0} (keeper : KeeperOf K) (access : Access) (before : SeenOf K) (asks : List Ask) (turns bytes more sum : ℕ) (between after : SeenOf K) → OverAndOver keeper access before asks turns bytes between
    → InTurn keeper access between asks more after → sum ≡ bytes + more → OverAndOver keeper access before asks (turns + 1) sum after
turns_more keeper access before asks turns bytes more sum between after over turn total =
    subst (λ (n : ℕ). OverAndOver keeper access before asks (turns + 1) n after) (sym total) (OverAndOver.turned turns bytes between over more after turn)

pub turns_all : {K : Type 0} (keeper : KeeperOf K) (access : Access) (before : SeenOf K) (asks : List Ask) (turn turns bytes : ℕ) (after : SeenOf K) → turn ≡ turns → OverAndOver keeper access before asks turn bytes after → OverAndOver keeper access before asks turns bytes after
turns_all keeper access before asks turn turns bytes after same over = subst (λ (n : ℕ). OverAndOver keeper access before asks n bytes after) same over
