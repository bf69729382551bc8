-- The levels below a node are the measure.
use Rattle.descendants.proofs.+resume.Given as goal

abbrev pub decreases-resume : goal.decreases-resume
decreases-resume l = l.tree.left
