-- The status of a command that did not do its work, and its line on standard error.
use Rattle.std.specs.Prelude.{ℕ, List, [], ◌++◌, map, codes, decimal}
use Rattle.faults.specs.Fault.{number_of, name_of, turn_of}
use Rattle.faults.specs.declared.fault.Fault.{Fault}
use Rattle.faults.specs.declared.fault.FaultKind.{FaultKind}
use Rattle.faults.specs.declared.fault.FaultKind.TheVariants.{OtherGrid as AnotherGrid, BadPlan as PlanPastTheFiles, NoLayer as MissingLayer, OutOfMemory as WantOfMemory, Write as WriteFailed}
use Rattle.sinks.specs.PathText.PathText.{path_text}
use Rattle.command_line.specs.declared.status.Status.{Status}
use Rattle.command_line.specs.declared.status.Status.TheVariants.{Usage as WrongUsage, Unreadable as UnreadableFile, Refused, OutOfMemory as NoMemory, Write as OutputFailed}
use Rattle.command_line.specs.declared.files.OutputFault.{OutputFault}
use Rattle.command_line.specs.declared.files.OutputFault.TheVariants as output
use Rattle.command_line.specs.declared.refusal.Usage.{Usage as UsageFault}
use Rattle.command_line.specs.declared.refusal.Usage.TheVariants.{BadGrid, BadSteps, BadLayer, InputTwice, NoId, SameIds, BadStep, BadUnits, BadUnit, BadReals, BadScale, BadNumbers, BadDistance, BadQuantize, BadBack, BadReport, NoFolder, NameTwice, BadName, NameForMany}
use Rattle.command_line.specs.declared.refusal.Remedy.{Remedy}
use Rattle.command_line.specs.declared.refusal.Remedy.TheVariants.{Step, Encoding, Unpacking}
use Rattle.command_line.specs.declared.refusal.Refusal.{Refusal}
use Rattle.command_line.specs.declared.refusal.Refusal.TheVariants.{Usage, Unreadable, Text, TextWith, OtherGrid, NoLayer, BadPlan, OutOfMemory, Write}

-- the status of a command that is refused
abbrev pub status_of : Refusal → Status
status_of (Usage usage) = WrongUsage
status_of (Unreadable file) = UnreadableFile
status_of (Text file fault) = Refused
status_of (TextWith file fault remedy) = Refused
status_of (OtherGrid file) = Refused
status_of (NoLayer layer) = Refused
status_of BadPlan = Refused
status_of OutOfMemory = NoMemory
status_of Write = OutputFailed

-- the refusal where a file can't be written
abbrev pub refusal_of_output : OutputFault → Refusal
refusal_of_output output.IsThere = Write
refusal_of_output output.Unwritable = Write
refusal_of_output output.OutOfMemory = OutOfMemory

-- what is wrong with the words of a command line
abbrev pub usage_words : UsageFault → List ℕ
usage_words (BadGrid word) = codes "bad grid "
usage_words (BadSteps word) = codes "bad steps "
usage_words (BadLayer word) = codes "bad layer "
usage_words InputTwice = codes "standard input can be read once only"
usage_words (NoId layer) = codes "--ids: a feature without an id in layer "
usage_words (SameIds layer) = codes "--keyed: two features with one id in layer "
usage_words (BadStep word) = codes "bad step "
usage_words (BadUnits word) = codes "bad step "
usage_words (BadUnit word) = codes "bad unit "
usage_words (BadReals word) = codes "bad reals "
usage_words (BadScale word) = codes "bad reals "
usage_words (BadNumbers word) = codes "bad numbers "
usage_words (BadDistance word) = codes "bad snap "
usage_words (BadQuantize word) = codes "bad quantize "
usage_words BadBack = codes "--back takes one topology"
usage_words (BadReport file) = codes "the report would replace "
usage_words NoFolder = codes "more than one file: say -o FOLDER"
usage_words (NameTwice file) = codes "two files would be called "
usage_words (BadName layer) = codes "no file can be called "
usage_words (NameForMany layer) = codes "several objects would be called "

-- the word, the layer or the file that is wrong, where there is one
abbrev pub usage_name : UsageFault → List ℕ
usage_name (BadGrid word) = word.now
usage_name (BadSteps word) = word.now
usage_name (BadLayer word) = word.now
usage_name InputTwice = []
usage_name (NoId layer) = layer.now
usage_name (SameIds layer) = layer.now
usage_name (BadStep word) = word.now
usage_name (BadUnits word) = word.now
usage_name (BadUnit word) = word.now
usage_name (BadReals word) = word.now
usage_name (BadScale word) = word.now
usage_name (BadNumbers word) = word.now
usage_name (BadDistance word) = word.now
usage_name (BadQuantize word) = word.now
usage_name BadBack = []
usage_name (BadReport file) = file.now
usage_name NoFolder = []
usage_name (NameTwice file) = file.now
usage_name (BadName layer) = layer.now
usage_name (NameForMany layer) = layer.now

-- what stands behind it, where anything does
abbrev pub usage_end : UsageFault → List ℕ
usage_end (BadUnits word) = codes ": --unit says what the numbers of the output count"
usage_end (BadScale word) = codes ": --back takes scale:P=K alone"
usage_end (BadNumbers word) = codes ": names with commas between, or none"
usage_end (NameForMany layer) = codes ": say --layer OBJECT"
usage_end usage = []

-- the number and the name of a fault
abbrev pub kind_text : FaultKind → List ℕ
kind_text kind = decimal (number_of kind) ++ (codes " " ++ name_of kind)

-- a file, and the number, the name and the path of its fault
abbrev pub fault_text : List ℕ → Fault → List ℕ
fault_text file fault = file ++ (codes ": " ++ (kind_text fault.kind ++ (codes " " ++ path_text (map turn_of fault.path.items))))

-- where a text is no UTF-8, and what names its encoding
abbrev pub encoding_words : ℕ → ℕ → List ℕ
encoding_words line column = codes ": no UTF-8 at line " ++ (decimal line ++ (codes ", column " ++ (decimal column ++ codes "; try ogr2ogr -oo ENCODING=")))

-- what may help
abbrev pub remedy_words : Remedy → List ℕ
remedy_words Step = codes ": numbers beyond 180 and 90 need --step"
remedy_words (Encoding line column) = encoding_words line column
remedy_words Unpacking = codes ": compressed, gunzip it first"

-- why a command is refused
abbrev pub reason_text : Refusal → List ℕ
reason_text (Usage usage) = usage_words usage ++ (usage_name usage ++ usage_end usage)
reason_text (Unreadable file) = codes "cannot read " ++ file.now
reason_text (Text file fault) = fault_text file.now fault
reason_text (TextWith file fault remedy) = fault_text file.now fault ++ remedy_words remedy
reason_text (OtherGrid file) = file.now ++ (codes ": " ++ kind_text AnotherGrid)
reason_text (NoLayer layer) = kind_text MissingLayer ++ (codes " " ++ layer.now)
reason_text BadPlan = kind_text PlanPastTheFiles
reason_text OutOfMemory = kind_text WantOfMemory
reason_text Write = kind_text WriteFailed

-- the line on standard error
abbrev pub line_text : List ℕ → Refusal → List ℕ
line_text program refusal = program ++ (codes ": " ++ (reason_text refusal ++ codes "\n"))
