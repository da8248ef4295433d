-- What a setup names.
use Rattle.std.specs.Prelude.{ℕ, ◌==◌, if◌then◌else◌, List, [], map, Option, slice_get}
use Rattle.cf_setup.specs.Setups.{SetupValue}

-- the names of a sort: 0 the attributes, 1 the lanes, 2 the triggers, 3 the questions
abbrev pub names_of : SetupValue → ℕ → List (List ℕ)
names_of setup sort =
    if sort == 0 then map (λ attr. attr.name) setup.schema
    else (if sort == 1 then setup.lane_names else (if sort == 2 then setup.trigger_names else (if sort == 3 then setup.ask_names else [])))

-- the name of what the setup has of that sort at that number
abbrev pub name_of : SetupValue → ℕ → ℕ → Option (List ℕ)
name_of setup sort number = slice_get (names_of setup sort) number
