use Rattle.recline.proofs.showing.show_on.Goals as goal

pub show_part-requires : goal.show_part-requires
show_part-requires g c = record { refuses = c.fault_of.ensures.refuses c.args.bytes.now c.in-Err.ensures.refused; file = c.fault_of.ensures.file }
