-- Events that follow one another, from the connections that are open.
use Rattle.std.proofs.Common.{◌≡◌, List, [], ◌∷◌, ◌++◌, sym, ap, ◌∙◌, append_assoc, append-nil, refl}
use Rattle.dns_server_core.specs.declared.event.Event.{Event}
use Rattle.dns_server_core.specs.Runs.{Completed}
use Rattle.dns_server_core.specs.Connections.{Connection, completed_at, done_from}
use Rattle.dns_server_core.specs.Steps.{completed_now, open_next}
use Rattle.dns_server_core.proofs.AllConnections.{pendings, pendings-push}
use Rattle.dns_server_core.proofs.ListsKept.{done-next}

-- what events complete, from these connections on
abbrev pub through : List Connection → List Event → List Completed
through ks [] = []
through ks (e ∷ es) = completed_now e ks ++ through (open_next e ks) es

-- what they leave open, whatever moment it is
abbrev pub opens : List Connection → List Event → List Connection
opens ks [] = ks
opens ks (e ∷ es) = opens (open_next e ks) es

pub done_through : (connections : List Connection) (seen rest : List Event) → done_from connections seen rest ≡ through (pendings connections seen) rest
done_through connections seen [] = refl
done_through connections seen (e ∷ rest) =
    done-next connections seen rest e
    ∙ ap (λ (l : List Completed). completed_now e (pendings connections seen) ++ l)
    (done_through connections (seen ++ e ∷ []) rest ∙ ap (λ (ks : List Connection). through ks rest) (pendings-push connections seen e))

pub pendings-opens : (connections : List Connection) (seen rest : List Event) → pendings connections (seen ++ rest) ≡ opens (pendings connections seen) rest
pendings-opens connections seen [] = ap (pendings connections) (append-nil seen)
pendings-opens connections seen (e ∷ rest) =
    ap (pendings connections) (sym (append_assoc seen (e ∷ []) rest))
    ∙ pendings-opens connections (seen ++ e ∷ []) rest
    ∙ ap (λ (ks : List Connection). opens ks rest) (pendings-push connections seen e)

pub done_from-append : (connections : List Connection) (seen front back : List Event)
    → done_from connections seen (front ++ back) ≡ done_from connections seen front ++ done_from connections (seen ++ front) back
done_from-append connections seen [] back = ap (λ (s : List Event). done_from connections s back) (sym (append-nil seen))
done_from-append connections seen (e ∷ front) back =
    ap (λ (l : List Completed). completed_at connections seen e ++ l)
    (done_from-append connections (seen ++ e ∷ []) front back
    ∙ ap (λ (s : List Event). done_from connections (seen ++ e ∷ []) front ++ done_from connections s back) (append_assoc seen (e ∷ []) front))
    ∙ sym (append_assoc (completed_at connections seen e) (done_from connections (seen ++ e ∷ []) front) (done_from connections (seen ++ e ∷ front) back))
