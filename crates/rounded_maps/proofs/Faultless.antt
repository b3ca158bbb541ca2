-- Files that are maps of which each feature is fixed have no faults.
use Rattle.std.proofs.Common.{◌≡◌, ℕ, ◌+◌, List, [], ◌∷◌, ◌++◌, Bool, true, false, Ok, codes, inl, inr, refl, sym, subst, ap, ◌∙◌}
use Rattle.std.specs.Prelude.{IsSome}
use Rattle.numerals.specs.Numeral.{IsMeasure}
use Rattle.faults.specs.Path.{index}
use Rattle.fixing.specs.declared.raw.RawGeometry.{RawGeometry}
use Rattle.fixing.specs.declared.raw.RawGeometry.TheVariants.{One, Collection}
use Rattle.fixing.specs.declared.rules.FixingRules.{FixingRules}
use Rattle.json.specs.Json.{Json}
use Rattle.decimal_maps.specs.Geometries.{IsGeometry, kind_name, kind_of}
use Rattle.decimal_maps.specs.Roots.{IsMap}
use Rattle.decimal_maps.specs.Tally.{nothing_counted}
use Rattle.decimal_maps.specs.declared.feature.RawFeature.{RawFeature}
use Rattle.decimal_maps.specs.declared.rules.MapRules.{MapRules}
use Rattle.decimal_faults.specs.Laws.{AreLeft}
use Rattle.decimal_faults.specs.Parts.{type_or_fault, type_text}
use Rattle.decimal_faults.proofs.SoundMaps.{map_is_sound}
use Rattle.decimal_faults.proofs.Texts.{text_is}
use Rattle.decimal_topologies.specs.Laws.{AreLayersLeft}
use Rattle.decimal_topologies.specs.Roots.{is_topology, is_topology_named}
use Rattle.decimal_topologies.specs.declared.objects.TopologyLayer.{TopologyLayer}
use Rattle.decimal_topologies.proofs.SoundTopologies.{topology_is_sound}
use Rattle.reading.specs.declared.geometry.GeometryType.{GeometryType}
use Rattle.reading.specs.declared.geometry.GeometryType.TheVariants as of
use Rattle.reading.specs.Fault.{under}
use Rattle.rounded_maps.specs.Files.{AreRounded, File}
use Rattle.rounded_maps.specs.Fixed.{AreFixed}
use Rattle.rounded_maps.specs.Laws.{AreFaultless, FilesAreFaultless, RoundedMapsAreFaultless}
use Rattle.rounded_maps.specs.Rounded.{AreRead, IsRead, IsRounded, text_faults, texts_faults}
use Rattle.rounded_maps.specs.Sequences.{records_of, without_mark}
use Rattle.rounded_maps.specs.Topologies.{AreLayerMaps, IsTopologyText, faults_of_either, file_faults, takes_name, topology_rules}
use Rattle.rounded_maps.specs.declared.files.Origin.{Origin}
use Rattle.rounded_maps.specs.declared.map.RoundedFeature.{RoundedFeature}
use Rattle.rounded_maps.specs.declared.map.RoundedMap.{RoundedMap}
use Rattle.rounded_maps.specs.declared.rounding.RoundingRules.{RoundingRules}
use Rattle.rounded_maps.proofs.Either.{of_geojson, of_topology}

pub are_left : (rules : FixingRules) (numbers : Bool) (n : ℕ) (raws : List RawFeature) (fs : List RoundedFeature) → AreFixed rules numbers n raws fs → AreLeft rules raws
are_left rules numbers n [] [] h = tt
are_left rules numbers n [] (f ∷ fs) h = absurd h
are_left rules numbers n (raw ∷ raws) [] h = absurd h
are_left rules numbers n (raw ∷ raws) (f ∷ fs) h = (subst (λ o. IsSome o) (sym h.0.left) refl, are_left rules numbers (n + 1) raws fs h.1)

first_left : (rules : FixingRules) (a b : List RawFeature) → AreLeft rules (a ++ b) → AreLeft rules a × AreLeft rules b
first_left rules [] b h = (tt, h)
first_left rules (raw ∷ a) b h = let rest = first_left rules a b h.1 in ((h.0, rest.0), rest.1)

-- a text of which each feature is left has no faults
pub text_sound : (rules : RoundingRules) (text : List ℕ) (raws : List RawFeature) → IsMeasure rules.map.grid.step → IsRead rules.map text raws → AreLeft rules.fixing raws → text_faults rules text ≡ []
text_sound rules text raws measured h left = text_is rules.map rules.fixing text h.tree h.utf8 h.json ∙ map_is_sound rules.map rules.fixing h.tree raws measured h.map left

texts_sound : (rules : RoundingRules) (n : ℕ) (texts : List (List ℕ)) (raws : List RawFeature) → IsMeasure rules.map.grid.step → AreRead rules.map texts raws → AreLeft rules.fixing raws → texts_faults rules n texts ≡ []
texts_sound rules n [] raws measured h left = refl
texts_sound rules n (t ∷ ts) raws measured (first, (rest, (is, (one, others)))) left =
    let parts = first_left rules.fixing first rest (subst (AreLeft rules.fixing) is left) in
    ap (λ ps. under (index n) ps ++ texts_faults rules (n + 1) ts) (text_sound rules t first measured one parts.0) ∙ texts_sound rules (n + 1) ts rest measured others parts.1

pub no_faults : RoundedMapsAreFaultless
no_faults rules true bytes m measured h =
    texts_sound rules 0 (records_of (without_mark bytes)) h.raws measured h.read (are_left rules.fixing rules.numbers 1 h.raws m.features.items h.fixed.features)
no_faults rules false bytes m measured h =
    let left = are_left rules.fixing rules.numbers 1 h.raws m.features.items h.fixed.features in
    let (first, (rest, (is, (one, others)))) = h.read in
    text_sound rules (without_mark bytes) first measured one (first_left rules.fixing first rest (subst (AreLeft rules.fixing) is left)).0

-- ---- files of GeoJSON or topologies

-- a map of GeoJSON is no topology
not_topology : (rules : MapRules) (j : Json) (raws : List RawFeature) → IsMap rules j raws → is_topology j ≡ false
not_topology rules j raws (inl h) = ap (λ o. is_topology_named (type_or_fault o)) h.kind
not_topology rules j [] (inr h) = absurd h
not_topology rules j (raw ∷ []) (inr (inl h)) = ap (λ o. is_topology_named (type_or_fault o)) h.kind
not_topology rules j (raw ∷ []) (inr (inr h)) = bare raw.geometry h.geometry
  where
    kind : (k : GeometryType) → is_topology_named (Ok (kind_name k)) ≡ false
    kind of.Point = refl
    kind of.MultiPoint = refl
    kind of.LineString = refl
    kind of.MultiLineString = refl
    kind of.Polygon = refl
    kind of.MultiPolygon = refl

    bare : (g : RawGeometry) → IsGeometry rules.grid j g nothing_counted raw.tally → is_topology j ≡ false
    bare (One s) h = ap (λ o. is_topology_named (type_or_fault o)) h.kind ∙ kind (kind_of s)
    bare (Collection ss) h = ap (λ o. is_topology_named (type_or_fault o)) h.has.kind
not_topology rules j (raw ∷ other ∷ raws) (inr h) = absurd h

remaining_layers : (rules : RoundingRules) (place : ℕ) (renamed : Bool) (layers : List TopologyLayer) (maps : List RoundedMap) (origins : List Origin) → AreLayerMaps rules place renamed layers maps origins → AreLayersLeft rules.fixing layers
remaining_layers rules place renamed [] maps origins h = tt
remaining_layers rules place renamed (l ∷ ls) [] origins h = absurd h
remaining_layers rules place renamed (l ∷ ls) (m ∷ ms) [] h = absurd h
remaining_layers rules place renamed (l ∷ ls) (m ∷ ms) (o ∷ os) h = (are_left rules.fixing rules.numbers 1 l.features.items m.features.items h.0.fixed.features, remaining_layers rules place renamed ls ms os h.1)

topology_kind : (j : Json) → type_text j ≡ Ok (codes "Topology") → is_topology j ≡ true
topology_kind j e = ap is_topology_named e

geojson_sound : (rules : RoundingRules) (bytes : List ℕ) (m : RoundedMap) → IsMeasure rules.map.grid.step → IsRounded rules false bytes m → faults_of_either rules (without_mark bytes) ≡ []
geojson_sound rules bytes m measured h =
    let (first, (rest, (is, (one, others)))) = h.read in
    of_geojson rules (without_mark bytes) one.tree one.utf8 one.json (not_topology rules.map one.tree first one.map) ∙ no_faults rules false bytes m measured h

topology_sound : (rules : RoundingRules) (place : ℕ) (named : Bool) (text : List ℕ) (maps : List RoundedMap) (origins : List Origin) → IsTopologyText rules place named text maps origins → faults_of_either rules text ≡ []
topology_sound rules place named text maps origins h =
    let are = h.are in
    of_topology rules text h.tree h.utf8 h.json (topology_kind h.tree are.read.0)
    ∙ topology_is_sound (topology_rules rules) rules.fixing h.tree are.layers are.read (remaining_layers rules place (takes_name named are.layers) are.layers maps origins are.are)

by_sequence : (rules : RoundingRules) (b : Bool) (bytes : List ℕ) (m : RoundedMap) → IsMeasure rules.map.grid.step → IsRounded rules b bytes m → file_faults rules b bytes ≡ []
by_sequence rules true bytes m measured h = no_faults rules true bytes m measured h
by_sequence rules false bytes m measured h = geojson_sound rules bytes m measured h

pub file_sound : FilesAreFaultless
file_sound rules place file maps origins measured (inl h) = by_sequence rules file.is_sequence file.bytes h.map measured h.rounded
file_sound rules place file maps origins measured (inr h) = ap (λ b. file_faults rules b file.bytes) h.one ∙ topology_sound rules place file.is_named (without_mark file.bytes) maps origins h.text

pub files_sound : (rules : RoundingRules) (n : ℕ) (files : List File) (maps : List RoundedMap) (origins : List Origin) → IsMeasure rules.map.grid.step → AreRounded rules n files maps origins → AreFaultless rules files
files_sound rules n [] maps origins measured h = tt
files_sound rules n (file ∷ files) maps origins measured (some, (others, (from, (rest, (is, (are, (one, more))))))) = (file_sound rules n file some from measured one, files_sound rules (n + 1) files others rest measured more)
