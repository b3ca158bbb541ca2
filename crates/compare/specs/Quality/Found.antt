-- The places of vertices that are near each other.
use Rattle.std.specs.Prelude.{unwrap_or}
use Rattle.compare.specs.Quality.Near.{other_feature}
use Rattle.compare.specs.declared.quality.vertex.Vertex.{Vertex}
use Rattle.compare.specs.declared.quality.pairs.NearPlace.{NearPlace}

-- where v lies, with the first feature that has it and not w
abbrev pub place_of : Vertex → Vertex → NearPlace
place_of v w = record { at = v.at; feature = unwrap_or (other_feature v.uses.now w.uses.now) 0 }

-- the places of both
abbrev pub places_at : Vertex → Vertex → NearPlace × NearPlace
places_at v w = (place_of v w, place_of w v)

-- the places of both vertices of a pair
abbrev pub places_of : Vertex × Vertex → NearPlace × NearPlace
places_of p = places_at p.0 p.1
