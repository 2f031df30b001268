-- The same as one object of JSON, for programs.
use Rattle.std.specs.Prelude.{ℕ, ◌+◌, List, [], ◌++◌, Option, Some, None, codes}
use Rattle.std.specs.Fmt.{decimal}
use Rattle.record_show.specs.declared.shown.ShownProcess.{ShownProcess}
use Rattle.record_show.specs.declared.shown.ShownFile.{ShownFile}
use Rattle.record_file.specs.File.{Said}
use Rattle.record_show.specs.Numbered.{numbered, comma_before}
use Rattle.record_show.specs.Strings.{string}
use Rattle.record_show.specs.Tables.{state_word}

-- a number or a string behind what stands in front of it
abbrev pub with_number : List ℕ → ℕ → List ℕ
with_number word n = word ++ decimal n

abbrev pub with_string : List ℕ → List ℕ → List ℕ
with_string word text = word ++ string text

-- the members of a process that are numbers
abbrev pub counts_json : ShownProcess → List ℕ
counts_json p =
    with_number (codes ",\"reports\":") p.reports ++ (with_number (codes ",\"elements\":") p.elements
    ++ (with_number (codes ",\"depth\":") p.depth ++ with_number (codes ",\"size\":") p.size))

-- the target of a retirement that is never absorbed, since the target retired
abbrev pub lost_json : Option (List ℕ) → List ℕ
lost_json None = []
lost_json (Some target) = with_string (codes ",\"never_absorbed_by\":") target

-- a process in front of which so many stand
abbrev pub process_json : ℕ → ShownProcess → List ℕ
process_json n p =
    comma_before n ++ (with_string (codes "{\"process\":") p.name ++ (with_string (codes ",\"state\":") (state_word p.state)
    ++ (counts_json p ++ (with_string (codes ",\"last\":") p.last ++ (lost_json p.lost_in ++ codes "}")))))

-- a record in front of which so many stand
abbrev pub record_json : ℕ → Said → List ℕ
record_json n said =
    comma_before n ++ (with_number (codes "{\"number\":") (n + 1) ++ (with_number (codes ",\"epoch\":") said.0 ++ (with_string (codes ",\"line\":") said.1 ++ codes "}")))

-- the members of the file
abbrev pub file_json : ShownFile → List ℕ
file_json file =
    with_number (codes "{\"version\":") file.version ++ (with_number (codes ",\"records\":") file.records
    ++ (with_number (codes ",\"front\":") file.front ++ (with_number (codes ",\"epoch\":") file.epoch ++ with_number (codes ",\"tail\":") file.tail)))

abbrev pub processes_json : List ShownProcess → List ℕ
processes_json processes = codes ",\"processes\":[" ++ (numbered process_json 0 processes ++ codes "]")

abbrev pub records_json : List Said → List ℕ
records_json said = codes ",\"reports\":[" ++ (numbered record_json 0 said ++ codes "]")

-- where they are asked for
abbrev pub asked_json : Option (List Said) → List ℕ
asked_json None = []
asked_json (Some said) = records_json said

-- the whole, with a line feed
abbrev pub json_text : ShownFile → List ShownProcess → Option (List Said) → List ℕ
json_text file processes asked = file_json file ++ (processes_json processes ++ (asked_json asked ++ codes "}\n"))
