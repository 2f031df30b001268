-- A desk with a new list of turns.
use Rattle.std.proofs.Common.{◌≡◌, List, [], ◌++◌, false, refl, sym, ◌∙◌, subst}
use Rattle.line_disk.specs.Disk.{View, Leaves}
use Rattle.line_disk.specs.declared.disk.Disk.{Ghosts}
use Rattle.record_file.specs.File.{Said, Stands}
use Rattle.record_file.specs.Store.{disk_of, found_records, is_stopped, HasRecords}
use Rattle.record_file.specs.declared.store.Store.{Store}
use Rattle.chains.specs.Kept.{Kept}
use Rattle.chains.specs.Held.{Held, held_of}
use Rattle.desk.specs.Desks.{records_of}
use Rattle.desk.specs.Lawful.{IsLawfulDesk}
use Rattle.desk.specs.Records.{Opens, recorded}
use Rattle.desk.specs.declared.turn.Turn.{Turn}
use Rattle.desk.proofs.Turned.{state}
use Rattle.desk.proofs.Turning.{same_held, lawful_open, none_recorded}

-- the store found all records, the file is as it was, and the opening is a copy of what is held
module _ {D : Type 0} {g : Ghosts D} (keeps : D → Type 0) (view : D → View) (chains copy : Kept) (opening : Held) (store new : Store D g) (turns none : List Turn)
    (lawful : IsLawfulDesk keeps view (state chains opening store turns))
    (rest : is_stopped store ≡ false → keeps (disk_of store) → HasRecords view store (records_of (state chains opening store turns)))
    (goes : is_stopped store ≡ false) (same : held_of copy ≡ held_of chains)
    (found : found_records new ≡ found_records store ++ recorded turns) (disk : disk_of new ≡ disk_of store) (stopped : is_stopped new ≡ is_stopped store)
    (rests : (said : List Said) → HasRecords view store said → HasRecords view new said) (empty : none ≡ []) where
  before : keeps (disk_of new) → keeps (disk_of store)
  before here = subst keeps disk here

  pub lawful_again : IsLawfulDesk keeps view (state chains (held_of copy) new none)
  lawful_again =
      lawful_open keeps view (state chains (held_of copy) new none) (same_held chains copy (is_stopped new) same (stopped ∙ goes)) refl empty
      (subst (λ (s : List Said). Opens s (held_of copy)) (sym found) (subst (λ (h : Held). Opens (found_records store ++ recorded turns) h) (sym same) lawful.admitted))
      (λ here c left. subst (λ (s : List Said). Stands s c) (sym found) (lawful.running goes (before here) c (subst (λ (d : D). Leaves (view d) c) disk left)))

  pub rests_again : is_stopped new ≡ false → keeps (disk_of new) → HasRecords view new (records_of (state chains (held_of copy) new none))
  rests_again runs here =
      subst (λ (s : List Said). HasRecords view new s) (sym (none_recorded (found_records new) none empty ∙ found)) (rests (found_records store ++ recorded turns) (rest goes (before here)))
