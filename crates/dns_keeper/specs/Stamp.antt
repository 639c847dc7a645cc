-- The stamp of a moment.
use Rattle.std.specs.Prelude.{◌≡◌, false, ℕ, ◌*◌, ◌/◌, ◌^◌, ◌-◌, pos, unsigned_abs, List, [], ◌++◌, codes}
use Rattle.std.specs.Fmt.{padded_integral, format_spec, digits}
use Rattle.jiff.specs.Types.{DateTime}
use Rattle.jiff.specs.Words.{civil_nanos}

-- a number in decimal, filled up with zeros to so many digits
abbrev pub filled : ℕ → ℕ → List ℕ
filled width n = padded_integral (format_spec 32 0 4 width (2 ^ 64 - 1)) false [] (digits 10 false n)

-- YYYY-MM-DD
abbrev pub date_text : ℕ → ℕ → ℕ → List ℕ
date_text year month day = filled 4 year ++ (codes "-" ++ (filled 2 month ++ (codes "-" ++ filled 2 day)))

-- HH:MM:SS.mmm
abbrev pub clock_text : ℕ → ℕ → ℕ → ℕ → List ℕ
clock_text hour minute second millis = filled 2 hour ++ (codes ":" ++ (filled 2 minute ++ (codes ":" ++ (filled 2 second ++ (codes "." ++ filled 3 millis)))))

-- a date, a blank and a time of day
abbrev pub stamp_text : DateTime → List ℕ
stamp_text dt =
    date_text (unsigned_abs dt.date.year) dt.date.month dt.date.day ++ (codes " " ++ clock_text dt.time.hour dt.time.minute dt.time.second (dt.time.subsec_nanosecond / 1000000))

-- what a clock in UTC shows at a moment, in milliseconds since 1970, as text
pub record IsStampOf (moment : ℕ) (text : List ℕ) : Type 0 where
  pub shown : DateTime
  pub at : civil_nanos shown ≡ pos (moment * 1000000)
  pub is : text ≡ stamp_text shown
