use Rattle.std.proofs.Common.{◌≡◌, arith}
use Rattle.decimal_maps.specs.declared.kind.Kind.TheVariants as kinds
use Rattle.decimal_maps.specs.declared.object.Lookup.TheVariants as lookup
use Rattle.decimal_maps.proofs.Meaning.{collection_is}
use Rattle.decimal_maps.proofs.geometry.geometry_of.Goals as goal

pub returns-in-Read-GeometryCollection : goal.returns-in-Read-GeometryCollection
returns-in-Read-GeometryCollection c on ms known =
    let kind : c.args.members.simple.kind ≡ lookup.Read kinds.GeometryCollection = grind arith in
    collection_is on c.args.members c.in_ok-shapes.shapes c.in_ok-shapes.tally ms kind c.in_ok-shapes.ensures known
