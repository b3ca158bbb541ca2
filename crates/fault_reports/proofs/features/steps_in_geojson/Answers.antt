use Rattle.fault_reports.proofs.FaultyFeaturesLemmas.{geojson_element, geojson_none, geojson_whole}
use Rattle.fault_reports.proofs.features.steps_in_geojson.Goals as goal

pub returns-then-goes_into-clause-is : goal.returns-then-goes_into-clause-is
returns-then-goes_into-clause-is c = geojson_element _ _ c.if-goes_into.ensures.is

pub returns-then-is_typed-clause-is : goal.returns-then-is_typed-clause-is
returns-then-is_typed-clause-is c = geojson_whole _ _ c.if-goes_into.ensures.is c.if-is_typed.ensures

pub returns-else-is_typed-clause-is : goal.returns-else-is_typed-clause-is
returns-else-is_typed-clause-is c = geojson_none _ _ c.if-goes_into.ensures.is c.if-is_typed.ensures
