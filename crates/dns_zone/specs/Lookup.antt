-- What a question is answered with: a chain of looks along aliases (RFC 1034 4.3.2, RFC 2308 3, RFC 6604).
use Rattle.std.specs.Prelude.{ℕ, ◌-◌, ◌==◌, if◌then◌else◌, length, zero, suc, Bool, true, false, not, ◌&&◌, List, [], ◌∷◌, ◌++◌, map, Option, Some, None, option_map, option_to_list}
use Rattle.std.specs.List.{list_any, flat_map}
use Rattle.dns_name.specs.Name.{is_same_name, is_at_or_below}
use Rattle.dns_wire.specs.declared.rdata.Data.{Data}
use Rattle.dns_wire.specs.declared.rdata.Data.TheVariants.{Cname}
use Rattle.dns_wire.specs.declared.record.Record.{Record}
use Rattle.dns_wire.specs.Given.{negative}
use Rattle.dns_wire.specs.declared.record_type.TheConstants.{SOA}
use Rattle.dns_wire.specs.declared.response_code.TheConstants.{NO_ERROR, NX_DOMAIN}
use Rattle.dns_zone_map.specs.Zone.{Contents, set_of}
use Rattle.dns_zone.specs.Look.{only_if, look_of}
use Rattle.dns_zone.specs.declared.look.Look.{Look}
use Rattle.dns_zone.specs.declared.look.Look.TheVariants.{Referral, NoName, Alias, Found, NoData}
use Rattle.dns_zone.specs.declared.lookup.Looked.{Looked}

-- what a chain of looks along aliases ends with
pub record Chain : Type 0 where
  pub code : ℕ
  pub answers : List Record
  pub authority : List Record

-- the authority of a negative reply
abbrev pub negative_soa : Contents → List Record
negative_soa zone = map negative (set_of zone.records zone.origin SOA)

-- where an alias leads
abbrev pub target_of : Data → Option (List (List ℕ))
target_of (Cname target) = Some target
target_of rdata = None

abbrev pub unless_asked : Contents → List (List (List ℕ)) → Option (List (List ℕ)) → Option (List (List ℕ))
unless_asked zone asked None = None
unless_asked zone asked (Some target) =
    only_if (is_at_or_below target zone.origin && not (list_any (is_same_name target) asked)) target

-- the name that is asked next: the alias's target, if it is inside the zone and was not asked yet
abbrev pub next_of : Contents → List (List (List ℕ)) → Record → Option (List (List ℕ))
next_of zone asked r = unless_asked zone asked (target_of r.rdata)

-- the names that were asked where these aliases were followed from a first name on
abbrev pub targets : List Record → List (List (List ℕ))
targets aliases = flat_map (λ r. option_to_list (target_of r.rdata)) aliases

abbrev pub asked_along : List (List ℕ) → List Record → List (List (List ℕ))
asked_along first aliases = first ∷ targets aliases

-- aliases before what the last one's target is answered with
abbrev pub ahead : List Record → Chain → Chain
ahead aliases rest = record { code = rest.code; answers = aliases ++ rest.answers; authority = rest.authority }

-- what a look for the target of an alias finds, where `more` further names may be asked
abbrev pub next_look : ℕ → Contents → ℕ → List (List (List ℕ)) → Record → Option Look
next_look zero zone rtype asked r = None
next_look (suc more) zone rtype asked r = option_map (λ target. look_of zone target rtype) (next_of zone asked r)

-- an alias before what its target is answered with
abbrev pub behind : Record → Chain → Chain
behind r rest = record { code = rest.code; answers = r ∷ rest.answers; authority = rest.authority }

-- an alias alone, with NoError
abbrev pub alone : Record → Chain
alone r = record { code = NO_ERROR; answers = r ∷ []; authority = [] }

-- the answer where a look ends the chain, and what follows an alias; a name that is not there is NXDomain
abbrev pub answered : Contents → Look → (Record → Chain) → Chain
answered zone (Referral ns) follow = record { code = NO_ERROR; answers = []; authority = ns }
answered zone NoName follow = record { code = NX_DOMAIN; answers = []; authority = negative_soa zone }
answered zone (Alias r) follow = follow r
answered zone (Found found) follow = record { code = NO_ERROR; answers = found; authority = [] }
answered zone NoData follow = record { code = NO_ERROR; answers = []; authority = negative_soa zone }

abbrev pub onward : Record → Option (List (List ℕ)) → (List (List ℕ) → Chain) → Chain
onward r None go = alone r
onward r (Some target) go = behind r (go target)

-- an alias and what follows it, where `more` further names may be asked
abbrev pub followed : ℕ → Contents → ℕ → List (List (List ℕ)) → Record → Chain
followed zero zone rtype asked r = alone r
followed (suc more) zone rtype asked r =
    onward r (next_of zone asked r) (λ target. answered zone (look_of zone target rtype) (followed more zone rtype (asked ++ target ∷ [])))

-- the chain of looks from a name on, where these were asked
abbrev pub chain_of : ℕ → Contents → List (List ℕ) → ℕ → List (List (List ℕ)) → Chain
chain_of more zone name rtype asked = answered zone (look_of zone name rtype) (followed more zone rtype asked)

-- the answer is the zone's own, and no referral (RFC 1034 4.3.1)
abbrev pub is_own : Look → Bool
is_own (Referral ns) = false
is_own look = true

-- the answer to a question: at most eight names are asked, and AA speaks of the first (RFC 6604 2)
unfoldable pub lookup_of : Contents → List (List ℕ) → ℕ → Looked
lookup_of zone name rtype = record {
  code = (chain_of 7 zone name rtype (name ∷ [])).code;
  aa = is_own (look_of zone name rtype);
  answers = (chain_of 7 zone name rtype (name ∷ [])).answers;
  authority = (chain_of 7 zone name rtype (name ∷ [])).authority;
}

-- the chain of looks from a name on, with its limit said of the names that were asked (RFC 6604 2)
abbrev pub chain_from : Contents → List (List ℕ) → ℕ → List (List (List ℕ)) → Chain
chain_from zone name rtype asked = chain_of (8 - length asked) zone name rtype asked

-- an alias, and what follows it where fewer than eight names were asked
abbrev pub limited : Contents → ℕ → List (List (List ℕ)) → Record → Chain
limited zone rtype asked r =
    if length asked == 8 then alone r else onward r (next_of zone asked r) (λ target. chain_from zone target rtype (asked ++ target ∷ []))
