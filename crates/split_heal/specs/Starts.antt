-- Which new arc begins with which old one.
use Rattle.std.specs.Prelude.{◌≡◌, ℕ, ◌+◌, true, false, cond, List, [], ◌∷◌, length, None}
use Rattle.std.specs.Option.{option_map}
use Rattle.theory.specs.ArcNumbers.{ArcRef, backwards}
use Rattle.theory.specs.Healing.{Starts, is_start}
use Rattle.split_heal.specs.ArcUseMap.{recorded_of, with_recorded}
use Rattle.split_heal.specs.declared.start_table.ArcStart.{ArcStart}
use Rattle.split_heal.specs.declared.start_table.ArcStartTable.{ArcStartTable}

-- the used new arc, and how many old ones it takes behind its first
abbrev pub recorded_start : ArcStart → ArcRef × ℕ
recorded_start s = (record { arc = s.arc; reversed = s.reversed }, s.others)

-- what is noted of a used old arc
abbrev pub starts_in : ArcStartTable → Starts
starts_in t q = option_map recorded_start (recorded_of t.starts q)

-- the same, and this noted of a
abbrev pub with_start : ArcRef → ArcRef × ℕ → Starts → Starts
with_start = with_recorded

-- the same, and b noted at the first of its pieces
abbrev pub with_head : ArcRef → List ArcRef → Starts → Starts
with_head b [] s = s
with_head b (a ∷ more) s = with_start a (b, length more) s

-- the same, and the new arcs from number i on noted, each in both directions
abbrev pub with_arcs : ℕ → Starts → List (List ArcRef) → Starts
with_arcs i s [] = s
with_arcs i s (p ∷ ps) = with_arcs (i + 1) (with_head (record { arc = i; reversed = true }) (backwards p) (with_head (record { arc = i; reversed = false }) p s)) ps

-- nothing noted
abbrev pub no_starts : Starts
no_starts q = None

-- of each used old arc the used new one that begins with it, where these are the pieces of the new arcs
abbrev pub starts_by : List (List ArcRef) → Starts
starts_by pieces = with_arcs 0 no_starts pieces

-- the table notes these
abbrev pub AreRecordedIn : ArcStartTable → List (List ArcRef) → Type 0
AreRecordedIn t pieces = (q : ArcRef) → starts_in t q ≡ starts_by pieces q

-- the place of the first used old arc that begins a new one; that behind the last where none does
abbrev pub first_place : Starts → List ArcRef → ℕ
first_place s [] = 0
first_place s (a ∷ used) = cond (is_start (s a)) 0 (1 + first_place s used)
