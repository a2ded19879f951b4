-- What the record of a disk's events says.
use Rattle.disk_memory.specs.declared.history.Event.{Event}
use Rattle.disk_memory.specs.declared.history.Event.TheVariants.{Write, FailedWrite, Sync}
use Rattle.disk_memory.specs.Past.{Change, Written, Failed, Synced}

-- the change that an event stands for
abbrev pub change_of : Event → Change
change_of (Write at bytes) = Written at bytes.items
change_of (FailedWrite at size) = Failed at size
change_of Sync = Synced
