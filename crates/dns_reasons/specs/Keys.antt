-- The keys with which words of a command line begin: their texts, what stands behind them, and how often.
use Rattle.std.specs.Prelude.{ℕ, List, Bool, true, false, codes}
use Rattle.dns_reasons.specs.declared.keys.Key.{Key}
use Rattle.dns_reasons.specs.declared.keys.Key.TheVariants.{Udp, Tcp, Connections, Limit, Workers, Zone, Journal, Update, Deny, Allow, Payload, Into, Server, Id}
use Rattle.dns_reasons.specs.declared.keys.Form.{Form}
use Rattle.dns_reasons.specs.declared.keys.Form.TheVariants.{Nothing, Path, Socket, Network, Number}

-- the text of a key, with the sign behind which its value stands
abbrev pub key_text : Key → List ℕ
key_text Udp = codes "--udp="
key_text Tcp = codes "--tcp="
key_text Connections = codes "--connections="
key_text Limit = codes "--limit="
key_text Workers = codes "--workers="
key_text Zone = codes "--zone="
key_text Journal = codes "--journal="
key_text Update = codes "--update"
key_text Deny = codes "--deny="
key_text Allow = codes "--allow="
key_text Payload = codes "--payload="
key_text Into = codes "--into="
key_text Server = codes "--server="
key_text Id = codes "--id="

-- what stands behind a key
abbrev pub form_of : Key → Form
form_of Udp = Socket
form_of Tcp = Socket
form_of Connections = Number 1 65536
form_of Limit = Number 0 140737488355327
form_of Workers = Number 1 64
form_of Zone = Path
form_of Journal = Path
form_of Update = Nothing
form_of Deny = Network
form_of Allow = Network
form_of Payload = Number 512 65507
form_of Into = Path
form_of Server = Socket
form_of Id = Number 0 65535

-- all but the networks stand at most once
abbrev pub is_single : Key → Bool
is_single Deny = false
is_single Allow = false
is_single _ = true
