-- Records as the code keeps them.
use Rattle.std.specs.Prelude.{ℕ, List, map, Vec}
use Rattle.std.specs.declared.alloc.Global.{Global}
use Rattle.record_file.specs.File.{Said}

-- what the records say in a list of pairs
abbrev pub said_in : List (ℕ × Vec ℕ Global) → List Said
said_in records = map (λ r. (r.0, r.1.items)) records
