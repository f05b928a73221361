use Rattle.disk_store.proofs.file.system.write_zeros.Given as goal

abbrev pub decreases-loop-end : goal.decreases-loop-end
decreases-loop-end g l = l.end
