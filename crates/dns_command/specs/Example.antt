-- The zone of a drawn list of events.
use Rattle.std.specs.Prelude.{ℕ, List, [], ◌∷◌, ◌++◌, codes}
use Rattle.std.specs.List.{flat_map}

-- the lines of its text
abbrev pub example_lines : List (List ℕ)
example_lines =
    codes "example.com. 3600 IN SOA ns.example.com. hostmaster.example.com. 7 3600 600 86400 300"
    ∷ codes "example.com. 3600 IN NS ns.example.com."
    ∷ codes "ns.example.com. 3600 IN A 192.0.2.53"
    ∷ codes "www.example.com. 3600 IN A 192.0.2.1"
    ∷ codes "alias.example.com. 3600 IN CNAME www.example.com."
    ∷ codes "*.wild.example.com. 3600 IN TXT w"
    ∷ codes "sub.example.com. 3600 IN NS ns.sub.example.com."
    ∷ []

-- its text, with a line end behind each line
abbrev pub example_text : List ℕ
example_text = flat_map (λ line. line ++ 10 ∷ []) example_lines
