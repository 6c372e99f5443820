use Rattle.capture_frame.proofs.+ether_type.Given as goal

abbrev pub decreases-ether_type : goal.decreases-ether_type
decreases-ether_type l = l.tags
