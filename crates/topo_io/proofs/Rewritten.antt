-- A text that a value is written as says the same as each text with that value.
use Rattle.std.proofs.Common.{◌≡◌, ◌≤◌, ℕ, Bool, true, false, List, [], Some, None, if◌then◌else◌, sym, ap, ◌∙◌, subst}
use Rattle.std.specs.List.{AllByRecursion}
use Rattle.std.specs.Str.{is_utf8}
use Rattle.serde_json.specs.Data.{Data, depth}
use Rattle.serde_json.specs.Read.{max_depth, read}
use Rattle.serde_json.proofs.Nesting.{depth-read}
use Rattle.grid.specs.Place.{Transform}
use Rattle.grid.specs.declared.pos.Pos.{Pos}
use Rattle.reading.specs.Text.{document, text_faults}
use Rattle.topo.specs.Parts.{LayerParts}
use Rattle.topo_io.specs.Parts.{AreSaid, LayerStored, arcs_or_none, geoms_or_none, loose_topology}
use Rattle.topo_io.specs.Roots.{grid_or_unit}

-- bytes with a value are read as it
read_document : (bytes : List ℕ) (d : Data) → document bytes ≡ Some d → read bytes ≡ Some d
read_document bytes d e = go (is_utf8 bytes) e
  where
    go : (b : Bool) → (if b then read bytes else None) ≡ Some d → read bytes ≡ Some d
    go true e = e
    go false e = absurd cc

-- a text without loose faults has its value
said_document : (bytes : List ℕ) (d : Data) → read bytes ≡ Some d → text_faults loose_topology (document bytes) ≡ [] → document bytes ≡ Some d
said_document bytes d r e = go (is_utf8 bytes) e
  where
    go : (b : Bool) → text_faults loose_topology (if b then read bytes else None) ≡ [] → (if b then read bytes else None) ≡ Some d
    go true e = r
    go false e = absurd cc

-- what one text says, each text with its value says
pub said_again : (bytes again : List ℕ) (d : Data) (g : Transform) (cs : List (List Pos)) (ls : List LayerParts) → document bytes ≡ Some d → (depth d ≤ max_depth → read again ≡ Some d) →
    AreSaid again g cs ls → AreSaid bytes g cs ls
said_again bytes again d g cs ls e r s =
    let same : document again ≡ document bytes = said_document again d (r (depth-read bytes d (read_document bytes d e))) s.loose ∙ sym e in
    record {
      loose = ap (text_faults loose_topology) (sym same) ∙ s.loose;
      grid = s.grid ∙ ap grid_or_unit same;
      arcs = s.arcs ∙ ap arcs_or_none same;
      layers = s.layers ∙ ap geoms_or_none same;
      ids = subst (λ o. AllByRecursion LayerStored (geoms_or_none o)) same s.ids;
      names = s.names;
    }
