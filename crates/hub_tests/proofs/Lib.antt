mod Open
