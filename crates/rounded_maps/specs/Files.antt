-- The maps of files.
use Rattle.std.specs.Prelude.{◌≡◌, ◌⊎◌, ℕ, ◌+◌, List, [], ◌∷◌, ◌++◌, Bool, false, None, get_or, map as map_list, option_map, string_bytes, unwrap_or}
use Rattle.rounded_maps.specs.Rounded.{IsRounded}
use Rattle.rounded_maps.specs.Sequences.{without_mark}
use Rattle.rounded_maps.specs.Topologies.{IsTopologyText}
use Rattle.rounded_maps.specs.declared.files.Origin.{Origin}
use Rattle.rounded_maps.specs.declared.map.RoundedMap.{RoundedMap}
use Rattle.rounded_maps.specs.declared.rounding.RoundingRules.{RoundingRules}
use Rattle.rounded_maps.specs.declared.source.Source.{Source}

-- a file: whether it is a sequence of texts, whether the caller's name counts for the only object of a topology, and its bytes
pub record File : Type 0 where
  pub is_sequence : Bool
  pub is_named : Bool
  pub bytes : List ℕ

-- the file of these bytes
abbrev pub file_of : Bool → Bool → List ℕ → File
file_of is_sequence is_named bytes = record { is_sequence = is_sequence; is_named = is_named; bytes = bytes }

-- the files of sources, of which these are the bytes
abbrev pub files_of : {T : Type 0} → (T → List ℕ) → List (Source T) → List File
files_of items sources = map_list (λ s. file_of s.is_sequence s.is_named (items s.bytes)) sources

-- from the file at that place, which gives it no name
abbrev pub origin_of : ℕ → Origin
origin_of place = record { text = place; layer = None }

-- the map of a file of GeoJSON, which has no name
pub record IsOfGeoJson (rules : RoundingRules) (place : ℕ) (file : File) (maps : List RoundedMap) (origins : List Origin) : Type 0 where
  pub map : RoundedMap
  pub rounded : IsRounded rules file.is_sequence file.bytes map
  pub only : maps ≡ map ∷ []
  pub from : origins ≡ origin_of place ∷ []

-- the maps of a file that is one text, a topology
pub record AreOfTopology (rules : RoundingRules) (place : ℕ) (file : File) (maps : List RoundedMap) (origins : List Origin) : Type 0 where
  pub one : file.is_sequence ≡ false
  pub text : IsTopologyText rules place file.is_named (without_mark file.bytes) maps origins

-- the maps of the file at a place, and where they are from
abbrev pub AreOfFile : RoundingRules → ℕ → File → List RoundedMap → List Origin → Type 0
AreOfFile rules place file maps origins = IsOfGeoJson rules place file maps origins ⊎ AreOfTopology rules place file maps origins

-- the maps of files, those of each behind those of the one before; the first file has the place n
abbrev pub AreRounded : RoundingRules → ℕ → List File → List RoundedMap → List Origin → Type 0
AreRounded rules n [] maps origins = (maps ≡ []) × (origins ≡ [])
AreRounded rules n (file ∷ files) maps origins =
    (some : List RoundedMap) × ((others : List RoundedMap) × ((from : List Origin) × ((rest : List Origin) × ((maps ≡ some ++ others) × ((origins ≡ from ++ rest) × (AreOfFile rules n file some from × AreRounded rules (n + 1) files others rest))))))

-- the name of a map's layer: the one that its file gives it, else that of the file
abbrev pub layer_of : List (List ℕ) → Origin → List ℕ
layer_of names o = unwrap_or (option_map string_bytes o.layer) (get_or names o.text [])
