-- What folding the names of a record changes, and what it leaves.
use Rattle.std.proofs.Common.{◌≡◌, ℕ, List, [], ◌∷◌, ◌++◌, length, map, refl, sym, ◌∙◌, arith, length-append}
use Rattle.std.specs.Char.{to_ascii_lowercase}
use Rattle.std.specs.Int.{w16, w32, to_be_bytes}
use Rattle.std.specs.List.{flat_map}
use Rattle.std.proofs.lemmas.Bool.Decides.{same_from_decides}
use Rattle.std.proofs.lemmas.Str.Ascii.{lowercase-lowercase}
use Rattle.dns_name.specs.Name.{fold_of, is_at_or_below, labels_bytes, name_bytes}
use Rattle.dns_name.proofs.SameNames.{is_at_or_below-Decides}
use Rattle.dns_name.proofs.Below.{length-fold_of}
use Rattle.dns_name.proofs.Wire.{IsName-fold_of}
use Rattle.dns_wire.specs.declared.record.Record.{Record}
use Rattle.dns_wire.specs.declared.rdata.Data.{Data}
use Rattle.dns_wire.specs.declared.rdata.Data.TheVariants.{A, Aaaa, Ns, Cname, Ptr, Mx, Srv, Soa, Txt, Opaque, Empty}
use Rattle.dns_wire.specs.Forms.{variant_of}
use Rattle.dns_wire.specs.WireFormat.{data_bytes, IsShort}
use Rattle.dns_wire.specs.ReadBack.{IsData, IsOfItsType, ReadsBack}
use Rattle.dns_wire.specs.Folds.{fold_data}
use Rattle.dns_update.specs.Change.{fold_record}
use Rattle.dns_update.specs.Verdict.{is_empty, is_update}

fold-fold : (label : List ℕ) → map to_ascii_lowercase (map to_ascii_lowercase label) ≡ map to_ascii_lowercase label
fold-fold [] = refl
fold-fold (b ∷ bs) = rw (lowercase-lowercase b, fold-fold bs) refl

-- names, data and records that were folded are folded
pub fold_of-fold_of : (name : List (List ℕ)) → fold_of (fold_of name) ≡ fold_of name
fold_of-fold_of [] = refl
fold_of-fold_of (l ∷ ls) = rw (fold-fold l, fold_of-fold_of ls) refl

fold_data-fold_data : (d : Data) → fold_data (fold_data d) ≡ fold_data d
fold_data-fold_data (A address) = refl
fold_data-fold_data (Aaaa address) = refl
fold_data-fold_data (Ns host) = rw (fold_of-fold_of host) refl
fold_data-fold_data (Cname target) = rw (fold_of-fold_of target) refl
fold_data-fold_data (Ptr target) = rw (fold_of-fold_of target) refl
fold_data-fold_data (Mx preference exchange) = rw (fold_of-fold_of exchange) refl
fold_data-fold_data (Srv priority weight port target) = rw (fold_of-fold_of target) refl
fold_data-fold_data (Soa serial mname rname refresh retry expire minimum) = rw (fold_of-fold_of mname, fold_of-fold_of rname) refl
fold_data-fold_data (Txt texts) = refl
fold_data-fold_data (Opaque bytes) = refl
fold_data-fold_data Empty = refl

pub fold_record-fold_record : (r : Record) → fold_record (fold_record r) ≡ fold_record r
fold_record-fold_record r = rw (fold_of-fold_of r.name, fold_data-fold_data r.rdata) refl

-- a name is at or below another where its fold is
pub below_folded : (name other : List (List ℕ)) → is_at_or_below (fold_of name) other ≡ is_at_or_below name other
below_folded name other =
    let d = is_at_or_below-Decides (fold_of name) other in
    let e = fold_of-fold_of name in
    same_from_decides (is_at_or_below (fold_of name) other) (is_at_or_below name other)
    (λ passed. let b = d.0 passed in (b.0, sym e ∙ b.1), λ below. d.1 (below.0, e ∙ below.1)) (is_at_or_below-Decides name other)

empty_folded : (d : Data) → is_empty (fold_data d) ≡ is_empty d
empty_folded (A address) = refl
empty_folded (Aaaa address) = refl
empty_folded (Ns host) = refl
empty_folded (Cname target) = refl
empty_folded (Ptr target) = refl
empty_folded (Mx preference exchange) = refl
empty_folded (Srv priority weight port target) = refl
empty_folded (Soa serial mname rname refresh retry expire minimum) = refl
empty_folded (Txt texts) = refl
empty_folded (Opaque bytes) = refl
empty_folded Empty = refl

-- folding leaves a record the form that its class asks of it
pub update_folded : (r : Record) → is_update (fold_record r) ≡ is_update r
update_folded r = rw (empty_folded r.rdata) refl

-- and data its variant and its length
variant_folded : (d : Data) → variant_of (fold_data d) ≡ variant_of d
variant_folded (A address) = refl
variant_folded (Aaaa address) = refl
variant_folded (Ns host) = refl
variant_folded (Cname target) = refl
variant_folded (Ptr target) = refl
variant_folded (Mx preference exchange) = refl
variant_folded (Srv priority weight port target) = refl
variant_folded (Soa serial mname rname refresh retry expire minimum) = refl
variant_folded (Txt texts) = refl
variant_folded (Opaque bytes) = refl
variant_folded Empty = refl

name_length : (name : List (List ℕ)) → length (name_bytes (fold_of name)) ≡ length (name_bytes name)
name_length name = omega (arith, length-fold_of name, length-append (labels_bytes name) (0 ∷ []), length-append (labels_bytes (fold_of name)) (0 ∷ []))

after_length : (front : List ℕ) (name : List (List ℕ)) → length (front ++ name_bytes (fold_of name)) ≡ length (front ++ name_bytes name)
after_length front name = omega (arith, length-append front (name_bytes (fold_of name)), length-append front (name_bytes name), name_length name)

soa_length : (mname rname : List (List ℕ)) (numbers : List ℕ)
    → length (name_bytes (fold_of mname) ++ name_bytes (fold_of rname) ++ numbers) ≡ length (name_bytes mname ++ name_bytes rname ++ numbers)
soa_length mname rname numbers =
    omega (
      arith,
      name_length mname,
      name_length rname,
      length-append (name_bytes (fold_of mname) ++ name_bytes (fold_of rname)) numbers,
      length-append (name_bytes mname ++ name_bytes rname) numbers,
      length-append (name_bytes (fold_of mname)) (name_bytes (fold_of rname)),
      length-append (name_bytes mname) (name_bytes rname),
    )

pub length_folded : (d : Data) → length (data_bytes (fold_data d)) ≡ length (data_bytes d)
length_folded (A address) = refl
length_folded (Aaaa address) = refl
length_folded (Ns host) = name_length host
length_folded (Cname target) = name_length target
length_folded (Ptr target) = name_length target
length_folded (Mx preference exchange) = after_length (to_be_bytes w16 preference) exchange
length_folded (Srv priority weight port target) = after_length (to_be_bytes w16 priority ++ to_be_bytes w16 weight ++ to_be_bytes w16 port) target
length_folded (Soa serial mname rname refresh retry expire minimum) =
    soa_length mname rname (flat_map (to_be_bytes w32) (serial ∷ refresh ∷ retry ∷ expire ∷ minimum ∷ []))
length_folded (Txt texts) = refl
length_folded (Opaque bytes) = refl
length_folded Empty = refl

data_kept : (d : Data) → IsData d → IsData (fold_data d)
data_kept (A address) h = h
data_kept (Aaaa address) h = h
data_kept (Ns host) h = IsName-fold_of host h
data_kept (Cname target) h = IsName-fold_of target h
data_kept (Ptr target) h = IsName-fold_of target h
data_kept (Mx preference exchange) h = (h.0, IsName-fold_of exchange h.1)
data_kept (Srv priority weight port target) h = (h.0, h.1, h.2, IsName-fold_of target h.3)
data_kept (Soa serial mname rname refresh retry expire minimum) h = (IsName-fold_of mname h.0, IsName-fold_of rname h.1, h.2, h.3, h.4, h.5, h.6)
data_kept (Txt texts) h = h
data_kept (Opaque bytes) h = h
data_kept Empty h = h

pub form_folded : (r : Record) → IsOfItsType r → IsOfItsType (fold_record r)
form_folded r form = rw (length_folded r.rdata, variant_folded r.rdata) form

pub short_folded : (r : Record) → IsShort r → IsShort (fold_record r)
short_folded r short = rw (length_folded r.rdata) short

-- a record that reads as itself where it was written does so when it was folded
pub back_folded : (r : Record) → ReadsBack r → ReadsBack (fold_record r)
back_folded r h = record {
  kept = record {
    name = IsName-fold_of r.name h.kept.name;
    rtype = h.kept.rtype;
    class = h.kept.class;
    ttl = h.kept.ttl;
    «data» = data_kept r.rdata h.kept.«data»;
  };
  form = form_folded r h.form;
  short = short_folded r h.short;
}
