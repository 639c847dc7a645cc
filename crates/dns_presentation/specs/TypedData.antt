-- The data of a type from the bytes that it takes in a message whose first byte is the first of the data: a name in it may be
-- compressed, by a pointer to a place of the data (RFC 1035 3.3, 3.4, 4.1.4; RFC 3596 2.2; RFC 2782; RFC 3597 3, 5). The law
-- `general_forms` says that this is what stands there in a message.
use Rattle.std.specs.Prelude.{ℕ, ◌+◌, nat_lt, ◌==◌, ◌&&◌, if◌then◌else◌, List, length, Option, Some, None}
use Rattle.std.specs.List.{list_all}
use Rattle.std.specs.Str.{bytes_eq}
use Rattle.dns_wire.specs.declared.rdata.Data.{Data}
use Rattle.dns_wire.specs.declared.rdata.Data.TheVariants.{A, Aaaa, Ns, Cname, Ptr, Mx, Txt, Opaque, Empty}
use Rattle.dns_wire.specs.declared.rdata.Form.{Form}
use Rattle.dns_wire.specs.declared.rdata.Form.TheVariants as form
use Rattle.dns_wire.specs.Forms.{form_of}
use Rattle.dns_wire.specs.Standing.{word_at, long_at, wide_at, srv_at, soa_at}
use Rattle.dns_wire.specs.Texts.{texts_of, texts_bytes}
use Rattle.dns_presentation.specs.Values.{◌>>=◌}
use Rattle.dns_presentation.specs.NamesInData.{name_at, last_name}

-- an address of four bytes, or of sixteen
unfoldable pub a_in : List ℕ → Option Data
a_in bytes = if length bytes == 4 then Some (A (long_at bytes 0)) else None

unfoldable pub aaaa_in : List ℕ → Option Data
aaaa_in bytes = if length bytes == 16 then Some (Aaaa (wide_at bytes 0)) else None

-- a name behind one number, or behind three
unfoldable pub mx_in : List ℕ → Option Data
mx_in bytes = last_name bytes 2 >>= λ exchange. Some (Mx (word_at bytes 0) exchange)

unfoldable pub srv_in : List ℕ → Option Data
srv_in bytes = last_name bytes 6 >>= λ target. Some (srv_at bytes 0 target)

-- two names, and five numbers behind them
unfoldable pub soa_in : List ℕ → Option Data
soa_in bytes = do
  mname ← name_at bytes 0
  rname ← name_at bytes mname.1
  if rname.1 + 20 == length bytes then Some (soa_at bytes rname.1 mname.0 rname.0) else None

-- byte strings
unfoldable pub txt_in : List ℕ → Option (List (List ℕ))
txt_in bytes = if list_all (λ text. nat_lt (length text) 256) (texts_of bytes) && bytes_eq (texts_bytes (texts_of bytes)) bytes then Some (texts_of bytes) else None

-- the data of a form
abbrev pub data_in : Form → List ℕ → Option Data
data_in form.A bytes = a_in bytes
data_in form.Aaaa bytes = aaaa_in bytes
data_in form.Ns bytes = last_name bytes 0 >>= λ host. Some (Ns host)
data_in form.Cname bytes = last_name bytes 0 >>= λ target. Some (Cname target)
data_in form.Ptr bytes = last_name bytes 0 >>= λ target. Some (Ptr target)
data_in form.Mx bytes = mx_in bytes
data_in form.Srv bytes = srv_in bytes
data_in form.Soa bytes = soa_in bytes
data_in form.Txt bytes = txt_in bytes >>= λ texts. Some (Txt texts)
data_in form.Opaque bytes = Some (Opaque bytes)
data_in form.Empty bytes = Some Empty

-- the data of a type whose bytes these are: there is at most one, and none where bytes are missing or left, or where a pointer
-- points at no place before the name that it stands in
unfoldable pub typed_data : ℕ → List ℕ → Option Data
typed_data type bytes = data_in (form_of type (length bytes)) bytes
