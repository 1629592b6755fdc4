-- What a read-only picture makes of a kind.
use Rattle.memory.specs.declared.kinds.Kind.{Kind}
use Rattle.memory.specs.declared.kinds.Kind.TheVariants.{Absent, ReadOnly, Writable}

-- what is writable becomes read-only
abbrev pub pictured : Kind → Kind
pictured Absent = Absent
pictured ReadOnly = ReadOnly
pictured Writable = ReadOnly
