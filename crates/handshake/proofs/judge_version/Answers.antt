-- `handshake::judge_version` meets its contract: none, or a string.
use Rattle.handshake.proofs.Turns.{version_none, version_there}
use Rattle.handshake.proofs.judge_version.Goals as goal

pub returns-then-v-lt-SAYS_VERSION : goal.returns-then-v-lt-SAYS_VERSION
returns-then-v-lt-SAYS_VERSION c = search version_none

pub returns : goal.returns
returns c = search version_there
