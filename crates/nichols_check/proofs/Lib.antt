mod OnLiterals
mod WorkedRows
mod Paired
mod RightTables
mod Unrefused
mod DegreeZero
mod CertifiedDegrees
mod RightUnrefused
