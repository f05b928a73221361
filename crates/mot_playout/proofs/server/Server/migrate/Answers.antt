use Rattle.mot_playout.proofs.server.Server.migrate.Goals as goal

pub returns-clause-any_moment : goal.returns-clause-any_moment
returns-clause-any_moment g c =
    rw (← c.self.view_is) (λ s holds. c.migrate.ensures.any_moment s holds)
