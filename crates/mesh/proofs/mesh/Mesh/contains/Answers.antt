-- Written out, though the check finds it: so an edit of the call is refused at this fact, and not at a limit of the search.
use Rattle.mesh.proofs.mesh.Mesh.contains.Goals as goal

pub returns : goal.returns
returns c = c.contains.ensures
