-- What is wanted behind some words.
use Rattle.std.specs.Prelude.{◌≡◌, ◌↔◌, ℕ, List, IsTrue}
use Rattle.std.specs.Fmt.{decimal}
use Rattle.id_tree.specs.IdTree.{IdTree}
use Rattle.id_tree.specs.NormalForm.{IsId}
use Rattle.id_tree.specs.Spelling as ids
use Rattle.stamp.specs.declared.stamp.Stamp.{Stamp}
use Rattle.stamp.specs.Stamps.{IsStamp, stamp_text}
use Rattle.report_line.specs.Names.{is_name}
use Rattle.report_line.specs.Spelling.{IsCount, AreNames, names_text}
use Rattle.line_explain.specs.declared.wanted.Wanted.{Wanted}
use Rattle.line_explain.specs.declared.wanted.Wanted.TheVariants as wanted
use Rattle.line_explain.specs.Begun.{MayFollow}

-- the word is one of this kind
abbrev pub Fits : Wanted → List ℕ → Type 0
Fits wanted.Name word = IsTrue (is_name word)
Fits wanted.Number word = (n : ℕ) × IsCount n × (word ≡ decimal n)
Fits wanted.Stamp word = (s : Stamp) × IsStamp s × (word ≡ stamp_text s)
Fits wanted.Id word = (i : IdTree) × IsId i × (word ≡ ids.spelling i)
Fits wanted.Names word = (names : List (List ℕ)) × AreNames names × (word ≡ names_text names)

-- the words of this kind may follow, and no others
abbrev pub Wants : List (List ℕ) → Wanted → Type 0
Wants front kind = (word : List ℕ) → MayFollow front word ↔ Fits kind word
