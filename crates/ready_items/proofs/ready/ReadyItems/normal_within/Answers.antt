use Rattle.std.proofs.Common.{Some, subst, sym}
use Rattle.scan_laws.specs.Candidates.{IsFirstRound}
use Rattle.scan_laws.proofs.CandidateFacts.{first-next, first-turned}
use Rattle.ready_items.specs.Kept.{KeepsReady, Ready}
use Rattle.ready_items.specs.Normals.{fits_normal}
use Rattle.ready_items.proofs.ready.ReadyItems.normal_within.Goals as goal

pub returns-in-Some : goal.returns-in-Some
returns-in-Some c = λ day J sound keeps.
    let inside : KeepsReady day J (record { normals = c.self.inside.normals; alone = c.self.inside.alone.set; found = c.self.inside.found; touched = c.self.inside.touched; at = c.self.inside.at }) = subst (KeepsReady day J) (sym c.self.view_is) keeps in
    subst (λ (v : Ready). IsFirstRound (fits_normal day J c.args.a c.args.most) v.at (Some c.in-Some.y)) c.self.view_is
    (first-next (fits_normal day J c.args.a c.args.most) c.self.inside.at c.in-Some.y (c.in-Some.ensures day J inside.fits.payments inside.amounts))

pub returns-in-None : goal.returns-in-None
returns-in-None c = λ day J sound keeps.
    let inside : KeepsReady day J (record { normals = c.self.inside.normals; alone = c.self.inside.alone.set; found = c.self.inside.found; touched = c.self.inside.touched; at = c.self.inside.at }) = subst (KeepsReady day J) (sym c.self.view_is) keeps in
    subst (λ (v : Ready). IsFirstRound (fits_normal day J c.args.a c.args.most) v.at c.find-in-None.result) c.self.view_is
    (first-turned (fits_normal day J c.args.a c.args.most) c.self.inside.at _ (c.in-None.ensures day J inside.fits.payments inside.amounts) (c.find-in-None.ensures day J inside.fits.payments inside.amounts))
