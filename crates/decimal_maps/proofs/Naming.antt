-- What is known of an object's members, as more are read.
use Rattle.std.proofs.Common.{◌≡◌, ℕ, List, Bool, Some, Result, Ok, Err, true, false, bytes_eq, ◌||◌, codes, refl, sym, ap, ◌∙◌, subst, cond, if◌then◌else◌}
use Rattle.std.proofs.lemmas.Slice.Eq.{bytes_eq-Decides}
use Rattle.json.specs.Json.{Json, Members}
use Rattle.json.specs.Find.{get_member}
use Rattle.reading.specs.Types.{geometry_named}
use Rattle.reading.specs.declared.geometry.GeometryType.{GeometryType}
use Rattle.reading.specs.declared.geometry.GeometryType.TheVariants.{Point, MultiPoint, LineString, MultiLineString, Polygon, MultiPolygon}
use Rattle.decimal_maps.specs.Geometries.{kind_name}
use Rattle.decimal_maps.specs.Members.{KnowsMember, LookupMeans, type_name}
use Rattle.decimal_maps.specs.Reads.{then_member}
use Rattle.decimal_maps.specs.declared.kind.Kind.{Kind}
use Rattle.decimal_maps.specs.declared.kind.Kind.TheVariants.{FeatureCollection, Feature, GeometryCollection, Simple}
use Rattle.decimal_maps.specs.declared.object.Lookup.{Lookup}
use Rattle.decimal_maps.specs.declared.object.Lookup.TheVariants.{Missing, Skipped, Read}
use Rattle.decimal_maps.proofs.Looping.{get_then}

same_name : (xs ys : List ℕ) → true ≡ bytes_eq xs ys → xs ≡ ys
same_name xs ys e = (bytes_eq-Decides xs ys).0 (sym e)

module _ {X : Type 0} (n : List ℕ) (R : Json → X → Type 0) where
  -- behind a member of that name
  pub member_read : (l : Lookup X) (name : List ℕ) (j : Json) (ms : Members) → true ≡ bytes_eq name n → LookupMeans R j l → KnowsMember n R l (then_member ms name j)
  member_read Missing name j ms same means = absurd means
  member_read Skipped name j ms same means = tt
  member_read (Read x) name j ms same means = (j, get_then n ms name j ∙ ap (λ b. cond b (Some j) (get_member n ms)) (sym same), means)

  -- behind a member of another name
  pub member_kept : (l : Lookup X) (name : List ℕ) (j : Json) (ms : Members) → false ≡ bytes_eq name n → KnowsMember n R l ms → KnowsMember n R l (then_member ms name j)
  member_kept Missing name j ms other h = get_then n ms name j ∙ ap (λ b. cond b (Some j) (get_member n ms)) (sym other) ∙ h
  member_kept Skipped name j ms other h = tt
  member_kept (Read x) name j ms other h = (h.0, get_then n ms name j ∙ ap (λ b. cond b (Some j) (get_member n ms)) (sym other) ∙ h.1, h.2)

-- a name is not another one
pub apart : (a b name : List ℕ) → bytes_eq a b ≡ false → true ≡ bytes_eq name a → false ≡ bytes_eq name b
apart a b name differ same = sym differ ∙ ap (λ x. bytes_eq x b) (sym (same_name name a same))

-- a name that is one of three is none of the others
pub apart_any : (x y z : Bool) (a b c w name : List ℕ) → bytes_eq a w ≡ false → bytes_eq b w ≡ false → bytes_eq c w ≡ false → bytes_eq name a ≡ x → bytes_eq name b ≡ y → bytes_eq name c ≡ z → true ≡ (x || y || z) → false ≡ bytes_eq name w
apart_any true y z a b c w name da db dc ea eb ec h = apart a w name da (sym ea)
apart_any false true z a b c w name da db dc ea eb ec h = apart b w name db (sym eb)
apart_any false false true a b c w name da db dc ea eb ec h = apart c w name dc (sym ec)
apart_any false false false a b c w name da db dc ea eb ec h = absurd (cc)

-- it is none of three
pub none_of : (x y z : Bool) → false ≡ (x || y || z) → (false ≡ x) × (false ≡ y) × (false ≡ z)
none_of true y z h = absurd (cc)
none_of false true z h = absurd (cc)
none_of false false true h = absurd (cc)
none_of false false false h = (refl, refl, refl)

-- ---- types

-- a name that is picked
pub pick : {K E : Type 0} (P : K → Type 0) (s n : List ℕ) (k l : K) (rest : Result K E) → (s ≡ n → P k) → (rest ≡ Ok l → P l) → (if bytes_eq s n then Ok k else rest) ≡ Ok l → P l
pick {K} P s n k l rest same_name other e = go (bytes_eq s n) refl e
  where
    go : (b : Bool) → bytes_eq s n ≡ b → (if b then Ok k else rest) ≡ Ok l → P l
    go true is e = let same : k ≡ l = cc in subst P same (same_name ((bytes_eq-Decides s n).0 is))
    go false is e = other e

-- the name of a type is that by which it is found
pub name_is : (s : List ℕ) (k : GeometryType) → geometry_named s ≡ Ok k → s ≡ kind_name k
name_is s k =
    let P = λ (l : GeometryType). s ≡ kind_name l in
    pick P s (codes "Point") Point k _ (λ e. e)
    (pick P s (codes "MultiPoint") MultiPoint k _ (λ e. e)
    (pick P s (codes "LineString") LineString k _ (λ e. e)
    (pick P s (codes "MultiLineString") MultiLineString k _ (λ e. e)
    (pick P s (codes "Polygon") Polygon k _ (λ e. e)
    (pick P s (codes "MultiPolygon") MultiPolygon k _ (λ e. e) (λ e. cc))))))

-- a text by which no type is found names none
pub unnamed : (s : List ℕ) (e : _) → false ≡ bytes_eq s (codes "FeatureCollection") → false ≡ bytes_eq s (codes "Feature") → false ≡ bytes_eq s (codes "GeometryCollection") → geometry_named s ≡ Err e → (k : Kind) → ¬ (s ≡ type_name k)
unnamed s e fc f gc g FeatureCollection is = let no : false ≡ true = fc ∙ ap (λ t. bytes_eq t (codes "FeatureCollection")) is in cc
unnamed s e fc f gc g Feature is = let no : false ≡ true = f ∙ ap (λ t. bytes_eq t (codes "Feature")) is in cc
unnamed s e fc f gc g GeometryCollection is = let no : false ≡ true = gc ∙ ap (λ t. bytes_eq t (codes "GeometryCollection")) is in cc
unnamed s e fc f gc g (Simple Point) is = let no : Err e ≡ Ok Point = sym g ∙ ap geometry_named is in cc
unnamed s e fc f gc g (Simple MultiPoint) is = let no : Err e ≡ Ok MultiPoint = sym g ∙ ap geometry_named is in cc
unnamed s e fc f gc g (Simple LineString) is = let no : Err e ≡ Ok LineString = sym g ∙ ap geometry_named is in cc
unnamed s e fc f gc g (Simple MultiLineString) is = let no : Err e ≡ Ok MultiLineString = sym g ∙ ap geometry_named is in cc
unnamed s e fc f gc g (Simple Polygon) is = let no : Err e ≡ Ok Polygon = sym g ∙ ap geometry_named is in cc
unnamed s e fc f gc g (Simple MultiPolygon) is = let no : Err e ≡ Ok MultiPolygon = sym g ∙ ap geometry_named is in cc
