-- A port that keeps before anything was asked of it or written to it.
use Rattle.std.specs.Prelude.{◌≡◌}
use Rattle.kept_port.specs.declared.story.Story.{Story, Begins}

-- nothing was noted yet, and it is so
abbrev pub IsNew : {K : Type 0} → Story K → K → Type 0
IsNew (Begins start) keeper = start.value ≡ keeper
IsNew _ keeper = ⊥
