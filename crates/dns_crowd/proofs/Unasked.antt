-- Calls of a crowd of which nothing was read, and to which nothing was handed.
use Rattle.std.proofs.Common.{◌≡◌, ◌∙◌, ℕ, Result, refl, subst}
use Rattle.dns_io.specs.declared.io_fault.IoFault.{IoFault}
use Rattle.dns_io.proofs.ToldContents.{Keeps-more, Keeps-same}
use Rattle.dns_edges.specs.Edges.{HasCause}
use Rattle.dns_crowd.specs.Crowds.{CrowdTold}
use Rattle.dns_crowd.specs.Turns.{Holds, IsUnasked}

pub unasked_same : (a : CrowdTold) → IsUnasked a a
unasked_same a = record { unread = Keeps-same a.left; untaken = Keeps-same a.taken; last = refl; greatest = refl; calm = refl }

pub unasked_more : (a b d : CrowdTold) → IsUnasked a b → IsUnasked b d → IsUnasked a d
unasked_more a b d p q = record {
  unread = Keeps-more a.left b.left d.left p.unread q.unread;
  untaken = Keeps-more a.taken b.taken d.taken p.untaken q.untaken;
  last = q.last ∙ p.last;
  greatest = q.greatest ∙ p.greatest;
  calm = q.calm ∙ p.calm;
}

pub cause_behind : {T : Type 0} (res : Result T IoFault) (a b d : ℕ) → b ≡ a → HasCause b d res → HasCause a d res
cause_behind res a b d e h = subst (λ (n : ℕ). HasCause n d res) e h

pub holds_same : (a : CrowdTold) → Holds a a
holds_same a = record { unread = Keeps-same a.left; untaken = Keeps-same a.taken }

pub unasked_holds : (a b : CrowdTold) → IsUnasked a b → Holds a b
unasked_holds a b p = record { unread = p.unread; untaken = p.untaken }

pub holds_more : (a b d : CrowdTold) → IsUnasked a b → Holds b d → Holds a d
holds_more a b d p q = record { unread = Keeps-more a.left b.left d.left p.unread q.unread; untaken = Keeps-more a.taken b.taken d.taken p.untaken q.untaken }
