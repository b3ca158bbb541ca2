-- What a text has, as the maps of its file.
use Rattle.std.proofs.Common.{◌≡◌, ℕ, List, [], ◌∷◌, ◌++◌, append-nil, Bool, true, false, inl, inr, refl, sym}
use Rattle.rounded_maps.specs.Contents.{AreMapsOf, IsContent}
use Rattle.rounded_maps.specs.Files.{AreOfFile, file_of}
use Rattle.rounded_maps.specs.Sequences.{without_mark}
use Rattle.rounded_maps.specs.declared.content.Content.{Content}
use Rattle.rounded_maps.specs.declared.content.Content.TheVariants.{Map, Topology}
use Rattle.rounded_maps.specs.declared.files.Origin.{Origin}
use Rattle.rounded_maps.specs.declared.map.RoundedMap.{RoundedMap}
use Rattle.rounded_maps.specs.declared.rounding.RoundingRules.{RoundingRules}

pub of_content : (rules : RoundingRules) (place : ℕ) (named : Bool) (bytes : List ℕ) (content : Content) (maps : List RoundedMap) (origins : List Origin)
    → IsContent rules (without_mark bytes) content → AreMapsOf rules place named content maps origins → AreOfFile rules place (file_of false named bytes) maps origins
of_content rules place named bytes (Map features) maps origins h (m, (fixed, only)) =
    inl (record {
      map = m;
      rounded = record {
        raws = features.items;
        read = (features.items, ([], (sym (append-nil features.items), (record { utf8 = h.utf8; tree = h.tree; json = h.json; map = h.has }, refl))));
        fixed = fixed;
      };
      only = only.only;
      from = only.from;
    })
of_content rules place named bytes (Topology layers) maps origins h are =
    inr (record {
      one = refl;
      text = record { utf8 = h.utf8; tree = h.tree; json = h.json; are = record { layers = layers.items; read = h.has; are = are } };
    })
