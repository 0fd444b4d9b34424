use Rattle.std.proofs.Common.{◌+◌}
use Rattle.storm.proofs.life.run_orders.Given as goal

-- each table that was made has its name
abbrev pub ghosts-play_out-N-Naming : goal.ghosts-play_out-N-Naming
ghosts-play_out-N-Naming g a = record { table = a.slots }

abbrev pub ghosts-play_out-N-Sizes : goal.ghosts-play_out-N-Sizes
ghosts-play_out-N-Sizes g a = record { blocks = 16; payload = a.orders.payload; hands = a.orders.workers + 1 }

abbrev pub ghosts-play_out-A-Naming : goal.ghosts-play_out-A-Naming
ghosts-play_out-A-Naming g a = record { table = a.maps.0 }

abbrev pub ghosts-play_out-B-Naming : goal.ghosts-play_out-B-Naming
ghosts-play_out-B-Naming g a = record { table = a.maps.1 }

abbrev pub ghosts-play_out-N-Chronicle : goal.ghosts-play_out-N-Chronicle
ghosts-play_out-N-Chronicle g a = record { chronicle = a.opened }
