-- How clauses see what the code keeps.
use Rattle.mw_sim.specs.declared.settings as kept
use Rattle.mw_sim.specs.Settings.{Settings}

-- what lines gave
abbrev pub given_seen : kept.Settings.Settings → Settings
given_seen given = record {
  values = given.values.items;
  set = given.set.items;
  memory = given.memory.items;
  written = given.written.items;
  env = given.env;
}
