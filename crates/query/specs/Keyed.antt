-- The text of neighbours as an object by ids.
use Rattle.std.specs.Prelude.{ℕ, List, [], ◌∷◌, ◌++◌, codes, slice_get}
use Rattle.std.specs.Fmt.{signed_decimal}
use Rattle.query.specs.AnswerTexts.{id_text_of}
use Rattle.shapes.specs.Parts.{spelled_text}
use Rattle.shapes.specs.Spelling.{spelling_of}
use Rattle.shapes.specs.declared.shape.Id.{Id}
use Rattle.shapes.specs.declared.shape.Id.TheVariants as id
use Rattle.sinks.specs.Texts.{list_text}
use Rattle.topo.specs.declared.geom.Geom.{Geom}

-- an id as the name of a member, a number by its decimal text [RFC 8259; own]
abbrev pub key_text : Id → List ℕ
key_text id.None = codes "\"null\""
key_text (id.Number n) = codes "\"" ++ (signed_decimal n ++ codes "\"")
key_text (id.Text s) = spelling_of (spelled_text s)

-- a member behind what separates it from the one before: a geometry's id, and the ids of the geometries at some indexes
-- [RFC 8259; own]
abbrev pub member_text : List ℕ → List Geom → Geom → List ℕ → List ℕ
member_text separator all g indexes = separator ++ (key_text g.id ++ (codes ":" ++ list_text (λ p. id_text_of (slice_get all p)) indexes))

-- the members of geometries, each with its list, with commas between them [RFC 8259; own]
abbrev pub members : List ℕ → List Geom → List Geom → List (List ℕ) → List ℕ
members separator all [] lists = []
members separator all (g ∷ gs) [] = []
members separator all (g ∷ gs) (l ∷ lists) = member_text separator all g l ++ members (codes ",") all gs lists

-- the object of geometries and their lists [RFC 8259; own]
abbrev pub keyed_text : List Geom → List (List ℕ) → List ℕ
keyed_text gs lists = codes "{" ++ (members [] gs gs lists ++ codes "}")
