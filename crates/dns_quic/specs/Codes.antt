-- The codes with which streams and connections are ended (RFC 9250 4.3).
use Rattle.std.specs.Prelude.{◌≡◌, ℕ, ◌<◌, ◌^◌, ◌==◌, nat_lt, if◌then◌else◌}
use Rattle.dns_quic.specs.declared.error_code.DoqErrorCode.{DoqErrorCode}
use Rattle.dns_quic.specs.declared.error_code.DoqErrorCode.TheVariants.{NoError, InternalError, ProtocolError, RequestCancelled, ExcessiveLoad, ErrorReserved, Unknown}

-- the number of a code
abbrev pub number_of : DoqErrorCode → ℕ
number_of NoError = 0
number_of InternalError = 1
number_of ProtocolError = 2
number_of RequestCancelled = 3
number_of ExcessiveLoad = 4
number_of ErrorReserved = 3499682398
number_of (Unknown number) = number

-- the code that a number names; one that has no name stands for itself, and one above 32 bits is a fault of protocol
abbrev pub code_of : ℕ → DoqErrorCode
code_of number =
    if number == 0 then NoError
    else (if number == 1 then InternalError
    else (if number == 2 then ProtocolError
    else (if number == 3 then RequestCancelled
    else (if number == 4 then ExcessiveLoad
    else (if number == 3499682398 then ErrorReserved
    else (if nat_lt number (2 ^ 32) then Unknown number
    else ProtocolError))))))

-- not a number without a name that one of the named codes has
abbrev pub IsProper : DoqErrorCode → Type 0
IsProper (Unknown number) = (4 < number) × ¬ (number ≡ 3499682398) × (number < 2 ^ 32)
IsProper _ = Unit {0}
