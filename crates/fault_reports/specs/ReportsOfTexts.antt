-- What is reported of each error of a text.
use Rattle.std.specs.Prelude.{◌≡◌, ℕ, ◌≤◌, ◌⊎◌, IsUtf8, List, Option, None, Some, String, length, map, option_map, string_bytes, take}
use Rattle.std.specs.declared.alloc.Global.{Global}
use Rattle.faults.specs.Fault.{turn_of}
use Rattle.faults.specs.Path.{Turn}
use Rattle.faults.specs.declared.fault.Fault.{Fault}
use Rattle.faults.specs.declared.fault.FaultKind.{FaultKind}
use Rattle.faults.specs.declared.fault.FaultKind.TheVariants.{PropertyNumber}
use Rattle.json.specs.Print.{quoted}
use Rattle.serde_json.specs.Data.{Data, null}
use Rattle.serde_json.specs.Read.{read}
use Rattle.serde_json.specs.Written.{compact_text}
use Rattle.sinks.specs.PathText.PathText.{path_text}
use Rattle.fault_reports.specs.FaultyFeatures.{faulty_id, faulty_member}
use Rattle.fault_reports.specs.LineColumns.{place_behind}
use Rattle.fault_reports.specs.declared.features.Format.{Format}
use Rattle.fault_reports.specs.declared.line_columns.LineColumn.{LineColumn}
use Rattle.fault_reports.specs.declared.report.FaultReport.{FaultReport}

-- the steps of an error's path
abbrev pub turns_of : Fault → List Turn
turns_of fault = map turn_of fault.path.items

-- only an error of a number in the properties has the name of a member
abbrev pub member_of_kind : FaultKind → Option (List ℕ) → Option (List ℕ)
member_of_kind PropertyNumber m = m
member_of_kind _ m = None

-- the name of the member that an error is of
abbrev pub named_member : FaultKind → Data → List Turn → Option (List ℕ)
named_member kind text path = member_of_kind kind (faulty_member text path)

-- the value of a text that is JSON, and null of one that is not
abbrev pub IsReadAs : List ℕ → Data → Type 0
IsReadAs bytes text = (IsUtf8 bytes × (read bytes ≡ Some text)) ⊎ ((IsUtf8 bytes → read bytes ≡ None) × (text ≡ null))

-- the place of a byte of a text, or of its end
pub record IsPlaceIn (bytes : List ℕ) (place : LineColumn) : Type 0 where
  pub at : ℕ
  pub within : at ≤ length bytes
  pub is : place ≡ place_behind (take at bytes)

-- the text is that of the id of the feature that the error at a path lies in, where it has one
abbrev pub IsIdAt : Format → Data → List Turn → Option (String Global) → Type 0
IsIdAt format text path id = option_map (λ s. string_bytes s) id ≡ option_map compact_text (faulty_id format text path)

-- a report has the id of the feature that its error lies in
abbrev pub HasItsId : Format → Data → FaultReport → Type 0
HasItsId format text r = IsIdAt format text (turns_of r.fault) r.id

-- a report has the error and the place; its path, its id and its member are the JSON texts of those
pub record IsReportOf (format : Format) (text : Data) (fault : Fault) (place : LineColumn) (report : FaultReport) : Type 0 where
  pub fault_is : report.fault ≡ fault
  pub place_is : report.place ≡ place
  pub path : string_bytes report.path ≡ quoted (path_text (turns_of fault))
  pub id : IsIdAt format text (turns_of fault) report.id
  pub member : option_map (λ s. string_bytes s) report.member ≡ option_map quoted (named_member fault.kind text (turns_of fault))

-- a report of an error of a text, which is at the place of one of its bytes
pub record IsReport (format : Format) (bytes : List ℕ) (report : FaultReport) : Type 0 where
  pub text : Data
  pub reads : IsReadAs bytes text
  pub place : IsPlaceIn bytes report.place
  pub says : IsReportOf format text report.fault report.place report
