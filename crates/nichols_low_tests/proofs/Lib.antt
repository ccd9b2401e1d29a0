mod WorkedFields
