use Rattle.bintree.proofs.triangle.Triangle.+corners.Given as goal

abbrev pub decreases-corners : goal.decreases-corners
decreases-corners l = l.self.number
